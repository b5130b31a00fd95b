use Rattle.std.proofs.Common.{ℕ}
use Rattle.rules.specs.Endings.{refuse}
use Rattle.rules.specs.LoadRealAddress.{load_through}
use Rattle.storage.specs.Answers.{machine}
use Rattle.storage.proofs.Laws.{begin, fresh, finishes, over_finished}
use Rattle.storage.proofs.Stages.{Asked, asks, asks_after, given, ended_with}
use Rattle.access.proofs.Paths.{formed, unformed}
use Rattle.real_address.proofs.lra.load_through.Goals as goal
use Rattle.real_address.proofs.lra.load_through.Goals.{After-control_field, After-after, After-after-2}

-- step 3: virtual control register 0
abbrev cr0 : (c : After-control_field)
    → Asked {S = Unit {0}} (λ u. machine c.args.storage.now c.args.keys.now)
    (λ u. load_through c.args.call c.args.rseg c.args.ecblok) ℕ
unfolding load_through
cr0 c =
    asks tt _ _ (begin _ _) c.control_field.result c.args.storage.now c.control_field.new.keys
    (fresh _ _ c.control_field.ensures)

pub returns-in_err-cr0 : goal.returns-in_err-cr0
unfolding load_through cr0
returns-in_err-cr0 c =
    ended_with (cr0 (goal.at.returns-in_err-cr0 c).After-control_field) c.from_residual.result c.in_err-cr0.was
    c.from_residual.ensures.1

-- and 1
abbrev cr1 : (c : After-after)
    → Asked {S = Unit {0}} (λ u. machine c.args.storage.now c.args.keys.now)
    (λ u. load_through c.args.call c.args.rseg c.args.ecblok) ℕ
unfolding load_through cr0
cr1 c =
    let here = given (cr0 (goal.at.After-after c).After-control_field) c.in_ok-cr0.was in
    asks_after tt _ _ here.runs c.control_field-2.result c.after.result c.args.storage.now c.control_field-2.new.keys
    c.after.ensures (simp c.sum-at_1.ensures at c.control_field-2.ensures)

pub returns-in_err-cr1 : goal.returns-in_err-cr1
unfolding load_through cr0 cr1
returns-in_err-cr1 c =
    ended_with (cr1 (goal.at.returns-in_err-cr1 c).After-after) c.from_residual-in_err-cr1.result c.in_err-cr1.was
    c.from_residual-in_err-cr1.ensures.1

-- step 4
pub returns-in_default : goal.returns-in_default
unfolding load_through cr0 cr1
returns-in_default c =
    let here = given (cr1 (goal.at.returns-in_default c).After-after) c.in_ok-cr1.was in
    rw c.refuse.ensures (over_finished here.left.storage here.left.keys
    (unformed refuse _ _ here.runs c.format_of.result (c.format_of.ensures refuse here.left) c.in_default.is))

-- step 5: the second halfword
abbrev second : (c : After-after-2)
    → Asked {S = Unit {0}} (λ u. machine c.args.storage.now c.args.keys.now)
    (λ u. load_through c.args.call c.args.rseg c.args.ecblok) ℕ
unfolding load_through cr0 cr1
second c =
    let here = given (cr1 (goal.at.After-after-2 c).After-after) c.in_ok-cr1.was in
    asks_after tt _ _
    (formed refuse _ _ here.runs c.format_of.result (c.format_of.ensures refuse here.left) c.in-Some.is)
    c.second_halfword.result c.after-2.result c.args.storage.now c.second_halfword.new.keys c.after-2.ensures
    c.second_halfword.ensures

pub returns-in_err-second : goal.returns-in_err-second
unfolding load_through cr0 cr1 second
returns-in_err-second c =
    ended_with (second (goal.at.returns-in_err-second c).After-after-2) c.from_residual-in_err-second.result
    c.in_err-second.was c.from_residual-in_err-second.ensures.1

-- from step 6
pub returns : goal.returns
unfolding load_through cr0 cr1 second
returns c =
    let here = given (second (goal.at.returns c).After-after-2) c.in_ok-second.was in
    finishes c.args.storage.now c.load_by.new.keys here.runs c.after-3.ensures
    (simp (c.indexed-at.ensures, c.r2.ensures) at c.load_by.ensures)
