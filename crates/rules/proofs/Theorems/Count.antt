-- The count: the length of the list, and at most the longest list of each instruction.
use Rattle.std.proofs.Common.{
  ◌≡◌,
  ℕ,
  ◌+◌,
  ◌≤◌,
  Bool,
  true,
  false,
  cond,
  ◌||◌,
  eqb,
  List,
  length,
  refl,
  arith,
  length-append,
}
use lib.ListN.{length-map}
use Rattle.rules.specs.Machine.{Machine}
use Rattle.rules.specs.References.{Reference}
use Rattle.rules.specs.Run.{Outcome, ended, gave}
use Rattle.rules.specs.Call.{Call, operation, Completion}
use Rattle.rules.specs.Attempt.{conclude, reading}
use Rattle.rules.specs.Theorems.Count.{longest_list, CountBounded, BoundReached}
use Rattle.rules.proofs.Computing.{computing}
use Rattle.rules.proofs.Within.{Came}
use Rattle.rules.proofs.Fits.{Stops, Completes}
use Rattle.rules.proofs.Fits.Attempt.{reading_came}

at_most_lem : (m : Machine) (c : Call) (rs : List Reference) (o : Outcome Completion)
    → Came (Stops (operation c)) (Completes (operation c) c) (longest_list (operation c)) (length rs) o
    → length (conclude m c rs o).references ≤ longest_list (operation c)
at_most_lem m c rs (ended e) h = h.1
at_most_lem m c rs (gave k) h =
    let w : length k.writes ≤ h.0 = h.1.written in
    let u : length rs + h.0 ≤ longest_list (operation c) = h.2 in
    simp (length-append, length-map) (omega arith)

same : (m : Machine) (c : Call) (rs : List Reference) (o : Outcome Completion)
    → (conclude m c rs o).answer.count ≡ length (conclude m c rs o).references
same m c rs (ended e) = refl
same m c rs (gave k) = refl

at_most_cond : (b : Bool) (x y : ℕ) → x ≤ 85 → y ≤ 85 → cond b x y ≤ 85
at_most_cond true x y h k = h
at_most_cond false x y h k = k

longest_of_all : (op : ℕ) → longest_list op ≤ 85
longest_of_all op =
    at_most_cond (eqb op 0x80) _ _ (omega arith)
    (at_most_cond (eqb op 0xb6) _ _ (omega arith)
    (at_most_cond (eqb op 0xac || eqb op 0xad) _ _ (omega arith)
    (at_most_cond (eqb op 0x08 || eqb op 0x09) _ _ (omega arith)
    (at_most_cond (eqb op 0xb213) _ _ (omega arith)
    (at_most_cond (eqb op 0xb1) _ _ (omega arith) (omega arith))))))

pub count_bounded : CountBounded
count_bounded m c =
    let rs = (reading m c).references in
    let o = (reading m c).outcome in
    let e = same m c rs o in
    let l = at_most_lem m c rs o (reading_came m c) in
    let most = longest_of_all (operation c) in
    record { length = e; for_code = omega (arith, e, l); at_most = omega (arith, e, l, most) }

pub bound_reached : BoundReached
unfolding computing
bound_reached = refl
