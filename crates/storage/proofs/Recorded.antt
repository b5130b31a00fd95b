-- An access to an item: recorded once where its bytes are all in one block, else byte by byte.
use Rattle.std.proofs.Common.{
  ◌≡◌,
  ℕ,
  zero,
  suc,
  ◌+◌,
  ◌/◌,
  ◌%◌,
  ◌<◌,
  ◌≤◌,
  Bool,
  true,
  false,
  ◌||◌,
  ltb,
  List,
  [],
  ◌∷◌,
  get_or,
  set,
  sym,
  refl,
  ap,
  ◌∙◌,
  true≢false,
  arith,
  ltb-false,
}
use Rattle.rules.specs.Machine.{◌⊕◌, addresses}
use Rattle.rules.specs.Recording.{marked, referred, changed}
use Rattle.rules.specs.Theorems.Isolation.{All}
use Rattle.storage.specs.Recording.{Access, Fetch, Store, marking, across}

-- an access to a byte of block b
abbrev once : (f : ℕ → ℕ) (keys : List ℕ) (b : ℕ) → List ℕ
once f s b = set s b (f (get_or s b 0))

-- to record an access twice is to record it once
abbrev Idempotent : (ℕ → ℕ) → Type 0
Idempotent f = (x : ℕ) → f (f x) ≡ f x

referred_twice : Idempotent referred
referred_twice x = omega arith

changed_twice : Idempotent changed
changed_twice x = omega arith

marking_twice : (access : Access) → Idempotent (marking access)
marking_twice Fetch = referred_twice
marking_twice Store = changed_twice

module _ (f : ℕ → ℕ) (twice : Idempotent f) where
  again : (s : List ℕ) (b : ℕ) → once f (once f s b) b ≡ once f s b
  again [] b = refl
  again (x ∷ s) zero = ap (λ y. y ∷ s) (twice x)
  again (x ∷ s) (suc b) = ap (λ t. x ∷ t) (again s b)

  rest : (s : List ℕ) (b : ℕ) (at : List ℕ) → All (λ a. a / 2048 ≡ b) at → marked f (once f s b) at ≡ once f s b
  unfolding marked
  rest s b [] h = refl
  rest s b (a ∷ at) h =
      ap (λ c. marked f (once f (once f s b) c) at) h.0
      ∙ ap (λ t. marked f t at) (again s b)
      ∙ rest s b at h.1

-- the n addresses from a on are in the block of a
in_block : (a n b : ℕ) → a < 16777216 → a % 2048 + n ≤ 2048 → a / 2048 ≡ b
    → All (λ x. x / 2048 ≡ b) (addresses a n)
in_block a zero b l h e = tt
in_block a (suc zero) b l h e = (e, tt)
in_block a (suc (suc n)) b l h e =
    (e, in_block (a ⊕ 1) (suc n) b (omega arith) (omega arith) (omega arith))

some_bytes : (access : Access) (s : List ℕ) (a n : ℕ) → a < 16777216 → a % 2048 + suc n ≤ 2048
    → once (marking access) s (a / 2048) ≡ marked (marking access) s (addresses a (suc n))
unfolding marked
some_bytes access s a n l h =
    sym (rest (marking access) (marking_twice access) s (a / 2048) (addresses (a ⊕ 1) n)
    (in_block a (suc n) (a / 2048) l h refl).1)

either_false : (a b : Bool) → (a || b) ≡ false → (a ≡ false) × (b ≡ false)
either_false true b h = absurd (true≢false h)
either_false false b h = (refl, h)

-- a word that is not across
module _ (a : ℕ) (t : across a ≡ false) where
  pub within : (a < 16777216) × (a % 2048 + 4 ≤ 2048)
  within =
      let b = either_false (ltb 16777215 a) (ltb 2044 (a % 2048)) t in
      let below = ltb-false 16777215 a b.0 in
      let ends = ltb-false 2044 (a % 2048) b.1 in
      (omega arith, omega arith)

  pub one_block : (access : Access) (s : List ℕ) {s' : List ℕ}
      → s' ≡ set s (a / 2048) (marking access (get_or s (a / 2048) 0)) → s' ≡ marked (marking access) s (addresses a 4)
  one_block access s e = e ∙ some_bytes access s a 3 within.0 within.1

-- ---- byte by byte

module _ (f : ℕ → ℕ) (s : List ℕ) (a : ℕ) where
  pub byte_marked : set s (a / 2048) (f (get_or s (a / 2048) 0)) ≡ marked f s (addresses a 1)
  unfolding marked
  byte_marked = refl

  halves : marked f (marked f s (addresses a 2)) (addresses (a ⊕ 2) 2) ≡ marked f s (addresses a 4)
  unfolding marked
  halves =
      let e : ◌≡◌ {A = ℕ} (a ⊕ 2) (a ⊕ 1 ⊕ 1) = omega arith in
      ap (λ b. marked f (marked f s (addresses a 2)) (addresses b 2)) e

  -- the left halfword of a word, and then the right one
  pub word_marked : {s' s'' : List ℕ} {b : ℕ} → s' ≡ marked f s (addresses a 2) → b ≡ a ⊕ 2
      → s'' ≡ marked f s' (addresses b 2) → s'' ≡ marked f s (addresses a 4)
  word_marked {b = b} left at right =
      right
      ∙ ap (λ t. marked f t (addresses b 2)) left
      ∙ ap (λ b. marked f (marked f s (addresses a 2)) (addresses b 2)) at
      ∙ halves
