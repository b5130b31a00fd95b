-- A predicate on reading programs, from which what can come of a run is read: how it can end, what it can give, and how
-- many references it can make.
use Rattle.std.proofs.Common.{◌≡◌, ℕ, zero, suc, ◌+◌, ◌≤◌, Bool, true, false, ltb, length, get_or, refl, suc-add, arith}
use Rattle.rules.specs.Endings.{Ending}
use Rattle.rules.specs.Machine.{Machine, has, value}
use Rattle.rules.specs.References.{Reference, seen_as, fetched, consulted}
use Rattle.rules.specs.Recording.{noted}
use Rattle.rules.specs.Steps.{Steps, done, stop, fetch, key, branch, ◌>>=◌, ending_as}
use Rattle.rules.specs.Run.{Outcome, ended, gave, Run, run, item}

-- With n references to spend, and whatever is read: p does not run out of them, ends only with what has E, and gives
-- only what has G, with so many references left.
abbrev pub Within : {A : Type 0} → (E : Ending → Type 0) (G : A → ℕ → Type 0) → Steps A → ℕ → Type 0
Within E G (done a) n = G a n
Within E G (stop e) n = E e
Within E G (fetch a c e next) zero = ⊥
Within E G (fetch a c e next) (suc n) = E e × ((v : ℕ) → Within E G (next v) n)
Within E G (key u b e next) zero = ⊥
Within E G (key u b e next) (suc n) = E e × ((v : ℕ) → Within E G (next v) n)
Within E G (branch b p q) n = (b ≡ true → Within E G p n) × (b ≡ false → Within E G q n)

-- gives anything
abbrev pub Any : {A : Type 0} → A → ℕ → Type 0
Any a n = Unit {0}

-- more references to spend do no harm
abbrev pub Monotone : {A : Type 0} → (A → ℕ → Type 0) → Type 0
Monotone {A} G = (a : A) (j k : ℕ) → j ≤ k → G a j → G a k

module _ {A : Type 0} (E : Ending → Type 0) (G : A → ℕ → Type 0) (mono : Monotone G) where
  pub within_more : (p : Steps A) (j k : ℕ) → j ≤ k → Within E G p j → Within E G p k
  within_more (done a) j k l h = mono a j k l h
  within_more (stop e) j k l h = h
  within_more (fetch a c e next) zero k l h = absurd h
  within_more (fetch a c e next) (suc j) zero l h = let z : ⊥ = omega arith in absurd z
  within_more (fetch a c e next) (suc j) (suc k) l h = (h.0, λ v. within_more (next v) j k (omega arith) (h.1 v))
  within_more (key u b e next) zero k l h = absurd h
  within_more (key u b e next) (suc j) zero l h = let z : ⊥ = omega arith in absurd z
  within_more (key u b e next) (suc j) (suc k) l h = (h.0, λ v. within_more (next v) j k (omega arith) (h.1 v))
  within_more (branch b p q) j k l h = (λ t. within_more p j k l (h.0 t), λ t. within_more q j k l (h.1 t))

module _ {A B : Type 0} (E : Ending → Type 0) (P : A → Type 0) (G : B → ℕ → Type 0) (mono : Monotone G) where
  -- p, which spends at most j, and then f, which spends at most n
  within_both : (p : Steps A) (f : A → Steps B) (j n : ℕ) → Within E (λ a k. P a) p j
      → ((a : A) → P a → Within E G (f a) n) → Within E G (p >>= f) (j + n)
  unfolding ◌>>=◌
  within_both (done a) f j n h g = within_more E G mono (f a) n (j + n) (omega arith) (g a h)
  within_both (stop e) f j n h g = h
  within_both (fetch a c e next) f zero n h g = absurd h
  within_both (fetch a c e next) f (suc j) n h g = rw suc-add (h.0, λ v. within_both (next v) f j n (h.1 v) g)
  within_both (key u b e next) f zero n h g = absurd h
  within_both (key u b e next) f (suc j) n h g = rw suc-add (h.0, λ v. within_both (next v) f j n (h.1 v) g)
  within_both (branch b p q) f j n h g =
      (λ t. within_both p f j n (h.0 t) g, λ t. within_both q f j n (h.1 t) g)

  pub within_then : (p : Steps A) (f : A → Steps B) (j n m : ℕ) → j + n ≤ m → Within E (λ a k. P a) p j
      → ((a : A) → P a → Within E G (f a) n) → Within E G (p >>= f) m
  within_then p f j n m l h g = within_more E G mono (p >>= f) (j + n) m l (within_both p f j n h g)

-- with the endings turned into others
pub within_ending_as : {A : Type 0} (E F : Ending → Type 0) (G : A → ℕ → Type 0) (f : Ending → Ending)
    → ((e : Ending) → E e → F (f e)) → (p : Steps A) (n : ℕ) → Within E G p n → Within F G (ending_as f p) n
unfolding ending_as
within_ending_as E F G f t (done a) n h = h
within_ending_as E F G f t (stop e) n h = t e h
within_ending_as E F G f t (fetch a c e next) zero h = h
within_ending_as E F G f t (fetch a c e next) (suc n) h =
    (t e h.0, λ v. within_ending_as E F G f t (next v) n (h.1 v))
within_ending_as E F G f t (key u b e next) zero h = h
within_ending_as E F G f t (key u b e next) (suc n) h = (t e h.0, λ v. within_ending_as E F G f t (next v) n (h.1 v))
within_ending_as E F G f t (branch b p q) n h =
    (λ x. within_ending_as E F G f t p n (h.0 x), λ x. within_ending_as E F G f t q n (h.1 x))

-- ---- what comes of a run

abbrev pub Came : {A : Type 0} → (E : Ending → Type 0) (G : A → ℕ → Type 0) → (n used : ℕ) → Outcome A → Type 0
Came E G n used (ended e) = E e × (used ≤ n)
Came E G n used (gave a) = (k : ℕ) × G a k × (used + k ≤ n)

module _ {A : Type 0} (E : Ending → Type 0) (G : A → ℕ → Type 0) where
  came_more : (n used : ℕ) (o : Outcome A) → Came E G n used o → Came E G (suc n) (suc used) o
  came_more n used (ended e) h = (h.0, let g : used ≤ n = h.1 in omega arith)
  came_more n used (gave a) h = (h.0, h.1, let g : used + h.0 ≤ n = h.2 in omega arith)

  item_came : (n : ℕ) (b : Bool) (r : Reference) (e : Ending) (v : ℕ) (k : ℕ → Run A) → E e
      → Came E G n (length (k v).references) (k v).outcome
      → Came E G (suc n) (length (item b r e v k).references) (item b r e v k).outcome
  item_came n false r e v k x h = (x, omega arith)
  item_came n true r e v k x h = came_more n (length (k v).references) (k v).outcome h

  pub run_came : (p : Steps A) (n : ℕ) (m : Machine) → Within E G p n
      → Came E G n (length (run p m).references) (run p m).outcome
  run_came (done a) n m h = (n, h, omega arith)
  run_came (stop e) n m h = (h, omega arith)
  run_came (fetch a c e next) zero m h = absurd h
  run_came (fetch a c e next) (suc n) m h =
      let v = value m.storage a c in
      let m' = noted m (fetched a c) in
      item_came n (has (length m.storage) a c) (fetched a c) e v (λ v. run (next v) m') h.0
      (run_came (next v) n m' (h.1 v))
  run_came (key u b e next) zero m h = absurd h
  run_came (key u b e next) (suc n) m h =
      let v = seen_as u (get_or m.keys b 0) in
      item_came n (ltb b (length m.keys)) (consulted u b) e v (λ v. run (next v) m) h.0
      (run_came (next v) n m (h.1 v))
  run_came (branch true p q) n m h = run_came p n m (h.0 refl)
  run_came (branch false p q) n m h = run_came q n m (h.1 refl)
