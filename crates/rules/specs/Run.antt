-- What a reading program comes to on a machine: how it comes out, and its list of references. Each fetch records as it
-- is made, so that what comes after it finds its reference bit set.
use Rattle.std.specs.Prelude.{ℕ, Bool, true, false, List, [], ◌∷◌, length, nat_lt, slice_index}
use Rattle.rules.specs.Endings.{Ending}
use Rattle.rules.specs.Machine.{Machine, has, value}
use Rattle.rules.specs.References.{seen_as, Reference, fetched, consulted}
use Rattle.rules.specs.Recording.{noted, noted_all}
use Rattle.rules.specs.Steps.{Steps, done, stop, fetch, key, branch}

pub data Outcome (A : Type 0) : Type 0 where
  ended : Ending → Outcome A
  gave : A → Outcome A

pub record Run (A : Type 0) : Type 0 where
  pub outcome : Outcome A
  pub references : List Reference

-- an item: missing, it makes no entry and the program ends; there, it makes one and the program goes on with its value
abbrev pub item : {A : Type 0} → (there : Bool) → Reference → Ending → (value : ℕ) → (ℕ → Run A) → Run A
item false r e v next = record { outcome = ended e; references = [] }
item true r e v next = let x = next v in record { outcome = x.outcome; references = r ∷ x.references }

-- one of two, the other never computed
abbrev pub either : {A : Type 0} → Bool → (Unit {0} → A) → (Unit {0} → A) → A
either true p q = p tt
either false p q = q tt

abbrev pub run : {A : Type 0} → Steps A → Machine → Run A
run (done a) m = record { outcome = gave a; references = [] }
run (stop e) m = record { outcome = ended e; references = [] }
run (fetch a n e next) m =
    item (has (length m.storage) a n) (fetched a n) e (value m.storage a n)
    (λ v. run (next v) (noted m (fetched a n)))
run (key u b e next) m =
    item (nat_lt b (length m.keys)) (consulted u b) e (seen_as u (slice_index m.keys b)) (λ v. run (next v) m)
run (branch b p q) m = either b (λ t. run p m) (λ t. run q m)

-- What the code's promises say of a run: how it came out, how many references it made, and the machine that it leaves,
-- which is as it was but for what its references recorded.
pub record View (A : Type 0) : Type 0 where
  pub outcome : Outcome A
  pub count : ℕ
  pub left : Machine

abbrev pub view : {A : Type 0} → Steps A → Machine → View A
view p m = record {
  outcome = (run p m).outcome;
  count = length (run p m).references;
  left = noted_all m (run p m).references;
}
