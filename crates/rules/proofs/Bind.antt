-- What a reading program comes to that goes on with another, and one whose endings are turned into others.
use Rattle.std.proofs.Common.{
  ◌≡◌,
  ℕ,
  suc,
  ◌+◌,
  Bool,
  true,
  false,
  ltb,
  ◌∷◌,
  length,
  get_or,
  sym,
  refl,
  ap,
  ◌∙◌,
  suc-add,
  zero-add,
}
use Rattle.rules.specs.Endings.{Ending}
use Rattle.rules.specs.Machine.{Machine, has, value}
use Rattle.rules.specs.References.{Reference, seen_as, fetched, consulted}
use Rattle.rules.specs.Recording.{noted, noted_all}
use Rattle.rules.specs.Steps.{Steps, done, stop, fetch, key, branch, ◌>>=◌, ending_as}
use Rattle.rules.specs.Run.{Outcome, ended, gave, Run, item, run, View, view}

-- what came out of p, and where it gave a value, what comes of that on the machine that p left
abbrev pub following : {A B : Type 0} → Outcome A → ℕ → Machine → (A → Machine → View B) → View B
following (ended e) n m g = record { outcome = ended e; count = n; left = m }
following (gave a) n m g = let x = g a m in record { outcome = x.outcome; count = n + x.count; left = x.left }

abbrev viewed : {A : Type 0} → Run A → Machine → View A
viewed r m = record { outcome = r.outcome; count = length r.references; left = noted_all m r.references }

abbrev one_more : {A : Type 0} → View A → View A
one_more x = record { outcome = x.outcome; count = suc x.count; left = x.left }

more : {A B : Type 0} (o : Outcome A) (n : ℕ) (m : Machine) (g : A → Machine → View B)
    → one_more (following o n m g) ≡ following o (suc n) m g
more (ended e) n m g = refl
more (gave a) n m g =
    ap (λ c. record { outcome = (g a m).outcome; count = c; left = (g a m).left }) (sym (suc-add n (g a m).count))

item_view : {A B : Type 0} (b : Bool) (r : Reference) (m : Machine) (e : Ending) (v : ℕ) (k : ℕ → Run A)
    (l : ℕ → Run B) (g : A → Machine → View B)
    → viewed (l v) (noted m r)
    ≡ following (k v).outcome (length (k v).references) (noted_all (noted m r) (k v).references) g
    → viewed (item b r e v l) m
    ≡ (let x = item b r e v k in following x.outcome (length x.references) (noted_all m x.references) g)
item_view false r m e v k l g h = refl
item_view true r m e v k l g h =
    ap one_more h ∙ more (k v).outcome (length (k v).references) (noted_all (noted m r) (k v).references) g

pub view_bind : {A B : Type 0} (p : Steps A) (f : A → Steps B) (m : Machine)
    → view (p >>= f) m ≡ following (view p m).outcome (view p m).count (view p m).left (λ a n. view (f a) n)
unfolding ◌>>=◌
view_bind (done a) f m =
    ap (λ c. record { outcome = (run (f a) m).outcome; count = c; left = noted_all m (run (f a) m).references })
    (sym (zero-add (length (run (f a) m).references)))
view_bind (stop e) f m = refl
view_bind (fetch a n e next) f m =
    let v = value m.storage a n in
    let m' = noted m (fetched a n) in
    item_view (has (length m.storage) a n) (fetched a n) m e v (λ v. run (next v) m') (λ v. run (next v >>= f) m')
    (λ x m. view (f x) m) (view_bind (next v) f m')
view_bind (key u b e next) f m =
    let v = seen_as u (get_or m.keys b 0) in
    item_view (ltb b (length m.keys)) (consulted u b) m e v (λ v. run (next v) m) (λ v. run (next v >>= f) m)
    (λ x m. view (f x) m) (view_bind (next v) f m)
view_bind (branch true p q) f m = view_bind p f m
view_bind (branch false p q) f m = view_bind q f m

-- ---- endings turned into others

abbrev pub ended_as : {A : Type 0} → (Ending → Ending) → Outcome A → Outcome A
ended_as f (ended e) = ended (f e)
ended_as f (gave a) = gave a

abbrev recast : {A : Type 0} → (Ending → Ending) → Run A → Run A
recast f r = record { outcome = ended_as f r.outcome; references = r.references }

item_recast : {A : Type 0} (f : Ending → Ending) (b : Bool) (r : Reference) (e : Ending) (v : ℕ) (k l : ℕ → Run A)
    → l v ≡ recast f (k v) → item b r (f e) v l ≡ recast f (item b r e v k)
item_recast f false r e v k l h = refl
item_recast f true r e v k l h = ap (λ x. record { outcome = x.outcome; references = r ∷ x.references }) h

pub run_ending_as : {A : Type 0} (f : Ending → Ending) (p : Steps A) (m : Machine)
    → run (ending_as f p) m ≡ recast f (run p m)
unfolding ending_as
run_ending_as f (done a) m = refl
run_ending_as f (stop e) m = refl
run_ending_as f (fetch a n e next) m =
    let v = value m.storage a n in
    let m' = noted m (fetched a n) in
    item_recast f (has (length m.storage) a n) (fetched a n) e v (λ v. run (next v) m')
    (λ v. run (ending_as f (next v)) m') (run_ending_as f (next v) m')
run_ending_as f (key u b e next) m =
    let v = seen_as u (get_or m.keys b 0) in
    item_recast f (ltb b (length m.keys)) (consulted u b) e v (λ v. run (next v) m)
    (λ v. run (ending_as f (next v)) m) (run_ending_as f (next v) m)
run_ending_as f (branch true p q) m = run_ending_as f p m
run_ending_as f (branch false p q) m = run_ending_as f q m
