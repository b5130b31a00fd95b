-- A stage of the code beside the reading program that it follows: what is left to do at a place, and what a call or a
-- test says there. So a proof names each place once, and the facts that hold there by what they mean.
--
-- How to read such a proof. Its answers are named like the goals of the check: `returns-in_err-x` is the return of the
-- `?` under `let x`, `returns-then-t` the return below the test t, `returns` the last. In an answer `c` has the
-- arguments and what each call before the goal gave. What several answers need is said once, of a place that comes
-- before them: `After-f-x`, which has what is known after the call of `f` under `let x`, and which an answer reaches by
-- `(goal.at.NAME c).After-f-x`. A proof goes along the code: what it has asked at a call (`Asked`), which hands on an
-- ending at the `?` below the call (`handed`, `ended_with`) or gives a value (`given`), and what it has tested
-- (`Tested`), which stops or passes.
use Rattle.std.proofs.Common.{◌≡◌, ℕ, Bool, true, false, List, length, Ok, Err, IsErrAnd, sym, ap, ◌∙◌}
use Rattle.std.proofs.lemmas.Result.{err_from_is_err_and}
use Rattle.rules.specs.declared.endings.Ending.{Ending}
use Rattle.rules.specs.declared.record_change.RecordChange.{RecordChange}
use Rattle.rules.specs.Machine.{Machine}
use Rattle.rules.specs.Steps.{Steps, ◌>>=◌, stop_if}
use Rattle.rules.specs.Call.{Completion}
use Rattle.storage.specs.Answers.{machine, over, Counted, Step, told, seen, later, finished, finish}
use Rattle.rules.proofs.Gives.{Gives}
use Rattle.storage.proofs.Laws.{more, Runs, waited, gave_only, goes, ends, pass, stops, over_finished}

-- The arguments that a stage began with are an S. They say the machine that it came to, and its reading program.
module _ {S A : Type 0} (entry : S → Machine) (stage : S → Steps A) where
  -- a place at which so many references have been made, and the rest is left to do
  pub record Reached : Type 0 where
    pub start : S
    pub count : ℕ
    pub left : Machine
    pub rest : Steps A
    pub runs : Runs (entry start) (stage start) count left rest

  -- a place at which a step was called: its answer, and the storage and keys that it left
  pub record Asked (B : Type 0) : Type 0 where
    pub start : S
    pub count : ℕ
    pub left : Machine
    pub step : Steps B
    pub next : B → Steps A
    pub runs : Runs (entry start) (stage start) count left (step >>= next)
    pub answer : Step B
    pub storage : List ℕ
    pub keys : List ℕ
    pub so : told answer storage keys ≡ more count (seen step left)

  -- a place at which a test was made: the code's flag is the definition's
  pub record Tested : Type 0 where
    pub start : S
    pub count : ℕ
    pub left : Machine
    pub test : Bool
    pub ending : Ending
    pub next : Unit {0} → Steps A
    pub runs : Runs (entry start) (stage start) count left (stop_if test ending >>= next)
    pub flag : Bool
    pub so : flag ≡ test

module _ {S A : Type 0} {entry : S → Machine} {stage : S → Steps A} where
  abbrev pub reached : {n : ℕ} {m : Machine} {u : Steps A} (start : S) → Runs (entry start) (stage start) n m u
      → Reached entry stage
  reached {n} {m} {u} start h = record { start = start; count = n; left = m; rest = u; runs = h }

  -- ---- calls

  module _ {B : Type 0} where
    abbrev pub asks : {n : ℕ} {m : Machine} (start : S) (p : Steps B) (k : B → Steps A)
        → Runs (entry start) (stage start) n m (p >>= k) → (r : Step B) (s ks : List ℕ)
        → told r s ks ≡ more n (seen p m) → Asked entry stage B
    asks {n} {m} start p k h r s ks f = record {
      start = start;
      count = n;
      left = m;
      step = p;
      next = k;
      runs = h;
      answer = r;
      storage = s;
      keys = ks;
      so = f;
    }

    -- the same, where its answer was told after the references before it
    abbrev pub asks_after : {n : ℕ} {m : Machine} (start : S) (p : Steps B) (k : B → Steps A)
        → Runs (entry start) (stage start) n m (p >>= k) → (r r' : Step B) (s ks : List ℕ) → r' ≡ later n r
        → told r s ks ≡ seen p m → Asked entry stage B
    asks_after {n} {m} start p k h r r' s ks e f = asks start p k h r' s ks (waited r r' n s ks p m e f)

    -- the value, with which the stage goes on
    abbrev pub given : (a : Asked entry stage B) {x : Counted B} → a.answer ≡ Ok x → Reached entry stage
    given a e =
        reached a.start
        (goes a.step a.next a.runs (ap (λ x. told x a.storage a.keys) (sym e) ∙ a.so))

    -- and it has what all that the step gives has
    pub sure : (Q : B → Type 0) (a : Asked entry stage B) {x : Counted B} → a.answer ≡ Ok x
        → Gives (length a.left.storage) (length a.left.keys) Q a.step → Q x.value
    sure Q a e h =
        gave_only Q a.step a.left a.count (ap (λ x. told x a.storage a.keys) (sym e) ∙ a.so) h

    -- the ending, and with it that of the stage
    pub ended : (a : Asked entry stage B) {x : Counted Ending} → a.answer ≡ Err x
        → over x.value x.count (machine a.storage a.keys) ≡ seen (stage a.start) (entry a.start)
    ended a e = ends a.step a.next a.runs (ap (λ x. told x a.storage a.keys) (sym e) ∙ a.so)

    -- the answer that the `?` hands on is that of the stage
    pub handed : (a : Asked entry stage B) {x : Counted Ending} (out : Step A) → a.answer ≡ Err x
        → IsErrAnd out (λ y. y ≡ x) → told out a.storage a.keys ≡ seen (stage a.start) (entry a.start)
    handed a out e f =
        let p = err_from_is_err_and out f in
        ap (λ y. told y a.storage a.keys) (p.1 ∙ ap Err p.2) ∙ ended a e

  -- ---- tests

  abbrev pub tests : {n : ℕ} {m : Machine} (start : S) (b : Bool) (e : Ending) (k : Unit {0} → Steps A)
      → Runs (entry start) (stage start) n m (stop_if b e >>= k) → (flag : Bool) → flag ≡ b → Tested entry stage
  tests {n} {m} start b e k h flag f = record {
    start = start;
    count = n;
    left = m;
    test = b;
    ending = e;
    next = k;
    runs = h;
    flag = flag;
    so = f;
  }

  abbrev pub passed : (t : Tested entry stage) → t.flag ≡ false → Reached entry stage
  passed t f = reached t.start (pass t.test t.ending t.next t.runs (sym t.so ∙ f))

  pub stopped : (t : Tested entry stage) → t.flag ≡ true
      → over t.ending t.count t.left ≡ seen (stage t.start) (entry t.start)
  stopped t f = stops t.test t.ending t.next t.runs (sym t.so ∙ f)

-- ---- an instruction

module _ {S : Type 0} {entry : S → Machine} {stage : S → Steps Completion} where
  -- a step ended it, and the `?` hands its ending on
  pub ended_with : {B : Type 0} (a : Asked entry stage B) {x : Counted Ending} (out : Step RecordChange)
      → a.answer ≡ Err x → IsErrAnd out (λ y. y ≡ x)
      → finished out a.storage a.keys ≡ finish (seen (stage a.start) (entry a.start))
  ended_with a out e f =
      let p = err_from_is_err_and out f in
      ap (λ y. finished y a.storage a.keys) (p.1 ∙ ap Err p.2) ∙ over_finished a.storage a.keys (ended a e)

  -- a test stopped it
  pub stopped_with : (t : Tested entry stage) → t.flag ≡ true
      → finished (Err (record { value = t.ending; count = t.count })) t.left.storage t.left.keys
      ≡ finish (seen (stage t.start) (entry t.start))
  stopped_with t e = over_finished t.left.storage t.left.keys (stopped t e)
