-- A predicate on reading programs, from which is read what a run can give: on so many bytes with so many keys, where
-- every item that was read is there.
use Rattle.std.proofs.Common.{◌≡◌, ℕ, Bool, true, false, ltb, length, get_or, refl, ◌∙◌, subst}
use Rattle.rules.specs.Endings.{Ending}
use Rattle.rules.specs.Machine.{Machine, has, value}
use Rattle.rules.specs.References.{KeyUse, Reference, seen_as, fetched, consulted}
use Rattle.rules.specs.Recording.{noted}
use Rattle.rules.specs.Steps.{Steps, done, stop, fetch, key, branch, ◌>>=◌}
use Rattle.rules.specs.Run.{Outcome, ended, gave, Run, run, item}
use Rattle.rules.specs.Theorems.Isolation.{All}
use Rattle.rules.proofs.Recording.{length_recorded}

-- whatever is read: p gives only what has Q
abbrev pub Gives : {A : Type 0} → (bytes keys : ℕ) (Q : A → Type 0) → Steps A → Type 0
Gives s k Q (done a) = Q a
Gives s k Q (stop e) = Unit {0}
Gives s k Q (fetch a n e next) = has s a n ≡ true → (v : ℕ) → Gives s k Q (next v)
Gives s k Q (key u b e next) = ltb b k ≡ true → (v : ℕ) → Gives s k Q (next v)
Gives s k Q (branch b p q) = (b ≡ true → Gives s k Q p) × (b ≡ false → Gives s k Q q)

module _ {A : Type 0} (s k : ℕ) where
  -- anything gives something
  pub gives_any : (p : Steps A) → Gives s k (λ (a : A). Unit {0}) p
  gives_any (done a) = tt
  gives_any (stop e) = tt
  gives_any (fetch a n e next) = λ t v. gives_any (next v)
  gives_any (key u b e next) = λ t v. gives_any (next v)
  gives_any (branch b p q) = (λ t. gives_any p, λ t. gives_any q)

module _ {A B : Type 0} (s k : ℕ) (P : A → Type 0) (Q : B → Type 0) where
  -- p, and then f with what it gave
  pub gives_then : (p : Steps A) (f : A → Steps B) → Gives s k P p → ((a : A) → P a → Gives s k Q (f a))
      → Gives s k Q (p >>= f)
  unfolding ◌>>=◌
  gives_then (done a) f h g = g a h
  gives_then (stop e) f h g = tt
  gives_then (fetch a n e next) f h g = λ t v. gives_then (next v) f (h t v) g
  gives_then (key u b e next) f h g = λ t v. gives_then (next v) f (h t v) g
  gives_then (branch b p q) f h g = (λ t. gives_then p f (h.0 t) g, λ t. gives_then q f (h.1 t) g)

-- p, whatever it gives, and then f
pub gives_after : {A B : Type 0} (s k : ℕ) (Q : B → Type 0) (p : Steps A) (f : A → Steps B)
    → ((a : A) → Gives s k Q (f a)) → Gives s k Q (p >>= f)
gives_after s k Q p f g = gives_then s k (λ a. Unit {0}) Q p f (gives_any s k p) (λ a t. g a)

-- ---- what comes of a run

abbrev pub IfGave : {A : Type 0} → (A → Type 0) → Outcome A → Type 0
IfGave Q (ended e) = Unit {0}
IfGave Q (gave a) = Q a

module _ {A : Type 0} (Q : A → Type 0) where
  item_gives : (b : Bool) (r : Reference) (e : Ending) (v : ℕ) (l : ℕ → Run A)
      → (b ≡ true → IfGave Q (l v).outcome) → IfGave Q (item b r e v l).outcome
  item_gives false r e v l h = tt
  item_gives true r e v l h = h refl

  pub run_gives : (p : Steps A) (m : Machine) (k : ℕ) → length m.keys ≡ k
      → Gives (length m.storage) k Q p → IfGave Q (run p m).outcome
  run_gives (done a) m k e h = h
  run_gives (stop x) m k e h = tt
  run_gives (fetch a n x next) m k e h =
      let v = value m.storage a n in
      let r = fetched a n in
      item_gives (has (length m.storage) a n) r x v (λ v. run (next v) (noted m r))
      (λ t. run_gives (next v) (noted m r) k (length_recorded m.keys r ∙ e) (h t v))
  run_gives (key u b x next) m k e h =
      let v = seen_as u (get_or m.keys b 0) in
      item_gives (ltb b (length m.keys)) (consulted u b) x v (λ v. run (next v) m)
      (λ t. run_gives (next v) m k e (h (subst (λ l. ltb b l ≡ true) e t) v))
  run_gives (branch true p q) m k e h = run_gives p m k e (h.0 refl)
  run_gives (branch false p q) m k e h = run_gives q m k e (h.1 refl)

-- ---- and its list: an entry is made only for an item that is there

module _ {A : Type 0} (P : Reference → Type 0) where
  item_all : (b : Bool) (r : Reference) (e : Ending) (v : ℕ) (l : ℕ → Run A) → (b ≡ true → P r)
      → All P (l v).references → All P (item b r e v l).references
  item_all false r e v l h g = tt
  item_all true r e v l h g = (h refl, g)

  pub run_all : (p : Steps A) (m : Machine) (k : ℕ) → length m.keys ≡ k
      → ((a n : ℕ) → has (length m.storage) a n ≡ true → P (fetched a n))
      → ((u : KeyUse) (b : ℕ) → ltb b k ≡ true → P (consulted u b))
      → All P (run p m).references
  run_all (done a) m k e f g = tt
  run_all (stop x) m k e f g = tt
  run_all (fetch a n x next) m k e f g =
      let v = value m.storage a n in
      let r = fetched a n in
      item_all (has (length m.storage) a n) r x v (λ v. run (next v) (noted m r)) (f a n)
      (run_all (next v) (noted m r) k (length_recorded m.keys r ∙ e) f g)
  run_all (key u b x next) m k e f g =
      let v = seen_as u (get_or m.keys b 0) in
      item_all (ltb b (length m.keys)) (consulted u b) x v (λ v. run (next v) m)
      (λ t. g u b (subst (λ l. ltb b l ≡ true) e t)) (run_all (next v) m k e f g)
  run_all (branch true p q) m k e f g = run_all p m k e f g
  run_all (branch false p q) m k e f g = run_all q m k e f g
