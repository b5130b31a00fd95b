-- What recording does to each key by itself.
use Rattle.std.proofs.Common.{
  ◌≡◌,
  ℕ,
  ◌+◌,
  ◌/◌,
  ◌%◌,
  Bool,
  true,
  false,
  cond,
  ◌&&◌,
  ◌||◌,
  eqb,
  ltb,
  List,
  [],
  ◌∷◌,
  ◌++◌,
  length,
  get_or,
  set,
  sym,
  refl,
  ap,
  ◌∙◌,
  arith,
  length-set,
  eq-eqb,
  eqb-true,
}
use mathlib.Core.Bool.{or_assoc, or-false, or-true}
use Rattle.rules.specs.Machine.{Machine, addresses}
use Rattle.rules.specs.References.{
  Reference,
  fetched,
  consulted,
  ForProtection,
  Whole,
  wrote,
  key_set,
  KeyUse,
  seen_as,
}
use Rattle.rules.specs.Recording.{referred, changed, marked, recorded, noted, noted_all}
use Rattle.rules.specs.Theorems.ReferenceBits.{SameButReference, is_referred, any_in, touches, touched}
use Rattle.rules.proofs.Puts.{set_at}

-- ---- one access

-- what an access to the bytes at these addresses does to key k, of so many
abbrev pub on : (f : ℕ → ℕ) (size k : ℕ) → List ℕ → ℕ → ℕ
on f size k [] x = x
on f size k (a ∷ at) x = on f size k at (cond (eqb (a / 2048) k && ltb k size) (f x) x)

pub length_marked : (f : ℕ → ℕ) (s at : List ℕ) → length (marked f s at) ≡ length s
unfolding marked
length_marked f s [] = refl
length_marked f s (a ∷ at) =
    let b = a / 2048 in
    length_marked f (set s b (f (get_or s b 0))) at ∙ length-set s b (f (get_or s b 0))

set_on : (f : ℕ → ℕ) (s : List ℕ) (i k : ℕ)
    → get_or (set s i (f (get_or s i 0))) k 0 ≡ cond (eqb i k && ltb k (length s)) (f (get_or s k 0)) (get_or s k 0)
set_on f s i k = set_at s i (f (get_or s i 0)) k ∙ go (eqb i k) (ltb k (length s)) refl
  where
    go : (b c : Bool) → eqb i k ≡ b
        → cond (b && c) (f (get_or s i 0)) (get_or s k 0) ≡ cond (b && c) (f (get_or s k 0)) (get_or s k 0)
    go true true e = ap (λ j. f (get_or s j 0)) (eqb-true i k e)
    go true false e = refl
    go false c e = refl

marked_at : (f : ℕ → ℕ) (s at : List ℕ) (k : ℕ) → get_or (marked f s at) k 0 ≡ on f (length s) k at (get_or s k 0)
unfolding marked
marked_at f s [] k = refl
marked_at f s (a ∷ at) k =
    let b = a / 2048 in
    let s' = set s b (f (get_or s b 0)) in
    marked_at f s' at k
    ∙ ap (λ n. on f n k at (get_or s' k 0)) (length-set s b (f (get_or s b 0)))
    ∙ ap (on f (length s) k at) (set_on f s b k)

-- what f keeps of a key beside another, an access keeps
on_keeps : (P : ℕ → ℕ → Type 0) (f : ℕ → ℕ) → ((x y : ℕ) → P x y → P x (f y))
    → (size k : ℕ) (at : List ℕ) (x y : ℕ) → P x y → P x (on f size k at y)
on_keeps P f h size k [] x y p = p
on_keeps P f h size k (a ∷ at) x y p = on_keeps P f h size k at x _ (go (eqb (a / 2048) k && ltb k size))
  where
    go : (b : Bool) → P x (cond b (f y) y)
    go true = h x y p
    go false = p

-- and what f done to both keeps
on_both : (P : ℕ → ℕ → Type 0) (f : ℕ → ℕ) → ((x y : ℕ) → P x y → P (f x) (f y))
    → (size k : ℕ) (at : List ℕ) (x y : ℕ) → P x y → P (on f size k at x) (on f size k at y)
on_both P f h size k [] x y p = p
on_both P f h size k (a ∷ at) x y p = on_both P f h size k at _ _ (go (eqb (a / 2048) k && ltb k size))
  where
    go : (b : Bool) → P (cond b (f x) x) (cond b (f y) y)
    go true = h x y p
    go false = p

-- ---- one entry

abbrev pub on_key : (size k : ℕ) → Reference → ℕ → ℕ
on_key size k (fetched a n) x = on referred size k (addresses a n) x
on_key size k (consulted u b) x = x
on_key size k (wrote a n) x = on changed size k (addresses a n) x
on_key size k (key_set b) x = x

pub recorded_at : (s : List ℕ) (r : Reference) (k : ℕ) → get_or (recorded s r) k 0 ≡ on_key (length s) k r
    (get_or s k 0)
recorded_at s (fetched a n) k = marked_at referred s (addresses a n) k
recorded_at s (consulted u b) k = refl
recorded_at s (wrote a n) k = marked_at changed s (addresses a n) k
recorded_at s (key_set b) k = refl

pub length_recorded : (s : List ℕ) (r : Reference) → length (recorded s r) ≡ length s
length_recorded s (fetched a n) = length_marked referred s (addresses a n)
length_recorded s (consulted u b) = refl
length_recorded s (wrote a n) = length_marked changed s (addresses a n)
length_recorded s (key_set b) = refl

-- protection does not see it
unseen : (size k : ℕ) (r : Reference) (x : ℕ) → on_key size k r x / 8 ≡ x / 8
unseen size k (fetched a n) x =
    on_keeps (λ x y. y / 8 ≡ x / 8) referred (λ x y h. omega arith) size k (addresses a n) x x refl
unseen size k (consulted u b) x = refl
unseen size k (wrote a n) x =
    on_keeps (λ x y. y / 8 ≡ x / 8) changed (λ x y h. omega arith) size k (addresses a n) x x refl
unseen size k (key_set b) x = refl

-- what is seen of a key in two machines stays the same when both have recorded an entry
pub seen_recorded : (u : KeyUse) (s s' : List ℕ) (r : Reference) (k : ℕ) → length s' ≡ length s
    → seen_as u (get_or s' k 0) ≡ seen_as u (get_or s k 0)
    → seen_as u (get_or (recorded s' r) k 0) ≡ seen_as u (get_or (recorded s r) k 0)
seen_recorded ForProtection s s' r k l h =
    ap (λ x. x / 8) (recorded_at s' r k)
    ∙ unseen (length s') k r (get_or s' k 0)
    ∙ h
    ∙ sym (ap (λ x. x / 8) (recorded_at s r k) ∙ unseen (length s) k r (get_or s k 0))
seen_recorded Whole s s' r k l h =
    recorded_at s' r k
    ∙ ap (λ n. on_key n k r (get_or s' k 0)) l
    ∙ ap (on_key (length s) k r) h
    ∙ sym (recorded_at s r k)

-- ---- the reference bit

pub same_refl : (x : ℕ) → SameButReference x x
same_refl x = record { left = refl; right = refl }

pub same_trans : (x y z : ℕ) → SameButReference x y → SameButReference y z → SameButReference x z
same_trans x y z f g = record { left = g.left ∙ f.left; right = g.right ∙ f.right }

changed_left : (x : ℕ) → changed x / 8 ≡ x / 8
changed_left x = omega arith

changed_right : (x : ℕ) → changed x % 4 ≡ 2 + x % 4 % 2
changed_right x = omega arith

pub same_both : (size k : ℕ) (r : Reference) (x y : ℕ) → SameButReference x y
    → SameButReference (on_key size k r x) (on_key size k r y)
same_both size k (fetched a n) x y h =
    on_both SameButReference referred
    (λ x y h. let l = h.left in let r = h.right in record { left = omega arith; right = omega arith })
    size k (addresses a n) x y h
same_both size k (consulted u b) x y h = h
same_both size k (wrote a n) x y h =
    on_both SameButReference changed
    (λ x y h. record {
      left = changed_left y ∙ h.left ∙ sym (changed_left x);
      right = changed_right y ∙ ap (λ z. 2 + z % 2) h.right ∙ sym (changed_right x);
    })
    size k (addresses a n) x y h
same_both size k (key_set b) x y h = h

-- a fetch changes nothing but the reference bit, which it sets in the blocks that it touches
pub same_fetched : (size k : ℕ) (at : List ℕ) (x y : ℕ) → SameButReference x y
    → SameButReference x (on referred size k at y)
same_fetched size k at x y h =
    on_keeps SameButReference referred
    (λ x y h. let l = h.left in let r = h.right in record { left = omega arith; right = omega arith })
    size k at x y h

pub bit_fetched : (size k : ℕ) (at : List ℕ) (x : ℕ) → ltb k size ≡ true
    → is_referred (on referred size k at x) ≡ (is_referred x || any_in k at)
bit_fetched size k [] x l = sym (or-false (is_referred x))
bit_fetched size k (a ∷ at) x l =
    bit_fetched size k at (cond (eqb (a / 2048) k && ltb k size) (referred x) x) l
    ∙ ap (λ b. b || any_in k at)
    (ap (λ c. is_referred (cond (eqb (a / 2048) k && c) (referred x) x)) l ∙ go (eqb (a / 2048) k))
    ∙ or_assoc (is_referred x) (eqb (a / 2048) k) (any_in k at)
  where
    go : (b : Bool) → is_referred (cond (b && true) (referred x) x) ≡ (is_referred x || b)
    go true = eq-eqb (referred x / 4 % 2) 1 (omega arith) ∙ sym (or-true (is_referred x))
    go false = sym (or-false (is_referred x))

-- ---- a list of entries

abbrev pub on_all : (size k : ℕ) → List Reference → ℕ → ℕ
on_all size k [] x = x
on_all size k (r ∷ rs) x = on_all size k rs (on_key size k r x)

pub noted_all-length : (m : Machine) (rs : List Reference) → length (noted_all m rs).keys ≡ length m.keys
noted_all-length m [] = refl
noted_all-length m (r ∷ rs) = noted_all-length (noted m r) rs ∙ length_recorded m.keys r

pub noted_all-at : (m : Machine) (rs : List Reference) (k : ℕ)
    → get_or (noted_all m rs).keys k 0 ≡ on_all (length m.keys) k rs (get_or m.keys k 0)
noted_all-at m [] k = refl
noted_all-at m (r ∷ rs) k =
    noted_all-at (noted m r) rs k
    ∙ ap (λ n. on_all n k rs (get_or (recorded m.keys r) k 0)) (length_recorded m.keys r)
    ∙ ap (on_all (length m.keys) k rs) (recorded_at m.keys r k)

pub noted_all-storage : (m : Machine) (rs : List Reference) → (noted_all m rs).storage ≡ m.storage
noted_all-storage m [] = refl
noted_all-storage m (r ∷ rs) = noted_all-storage (noted m r) rs

pub touched_append : (k : ℕ) (rs qs : List Reference) → touched k (rs ++ qs) ≡ (touched k rs || touched k qs)
touched_append k [] qs = refl
touched_append k (r ∷ rs) qs =
    ap (λ b. touches k r || b) (touched_append k rs qs) ∙ sym (or_assoc (touches k r) (touched k rs) (touched k qs))
