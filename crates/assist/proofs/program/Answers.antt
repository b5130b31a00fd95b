use Rattle.std.proofs.Common.{not, length, ap}
use Rattle.rules.specs.Attempt.{admitted, program}
use Rattle.storage.specs.Answers.{machine}
use Rattle.storage.proofs.Laws.{begin, continues}
use Rattle.storage.proofs.Stages.{Tested, tests, passed, stopped_with}
use Rattle.assist.proofs.program.Goals as goal
use Rattle.assist.proofs.program.Goals.{
  After-is_wrong_storage,
  After-is_wrong_keys,
  After-is_odd,
  After-is_assisted,
  After-is_wrong_mode,
}

-- 10
abbrev storage : (c : After-is_wrong_storage)
    → Tested {S = Unit {0}} (λ u. machine c.args.storage.now c.args.keys.now)
    (λ u. program (length c.args.storage.now) (length c.args.keys.now) c.args.call)
unfolding admitted
storage c =
    tests tt _ _ _ (begin _ _) c.is_wrong_storage.result c.is_wrong_storage.ensures

pub returns-then-is_wrong_storage : goal.returns-then-is_wrong_storage
unfolding admitted storage
returns-then-is_wrong_storage c =
    rw c.stop.ensures (stopped_with
    (storage (goal.at.returns-then-is_wrong_storage c).After-is_wrong_storage) c.if-is_wrong_storage.true)

-- 11
abbrev keys : (c : After-is_wrong_keys)
    → Tested {S = Unit {0}} (λ u. machine c.args.storage.now c.args.keys.now)
    (λ u. program (length c.args.storage.now) (length c.args.keys.now) c.args.call)
unfolding admitted storage
keys c =
    let here = passed (storage (goal.at.After-is_wrong_keys c).After-is_wrong_storage) c.if-is_wrong_storage.false in
    tests tt _ _ _ here.runs c.is_wrong_keys.result c.is_wrong_keys.ensures

pub returns-then-is_wrong_keys : goal.returns-then-is_wrong_keys
unfolding admitted storage keys
returns-then-is_wrong_keys c =
    rw c.stop-then-is_wrong_keys.ensures (stopped_with
    (keys (goal.at.returns-then-is_wrong_keys c).After-is_wrong_keys) c.if-is_wrong_keys.true)

-- 12
abbrev odd : (c : After-is_odd)
    → Tested {S = Unit {0}} (λ u. machine c.args.storage.now c.args.keys.now)
    (λ u. program (length c.args.storage.now) (length c.args.keys.now) c.args.call)
unfolding admitted storage keys
odd c =
    let here = passed (keys (goal.at.After-is_odd c).After-is_wrong_keys) c.if-is_wrong_keys.false in
    tests tt _ _ _ here.runs c.is_odd.result c.is_odd.ensures

pub returns-then-is_odd : goal.returns-then-is_odd
unfolding admitted storage keys odd
returns-then-is_odd c =
    rw c.stop-then-is_odd.ensures (stopped_with (odd (goal.at.returns-then-is_odd c).After-is_odd) c.if-is_odd.true)

-- 13
abbrev assisted : (c : After-is_assisted)
    → Tested {S = Unit {0}} (λ u. machine c.args.storage.now c.args.keys.now)
    (λ u. program (length c.args.storage.now) (length c.args.keys.now) c.args.call)
unfolding admitted storage keys odd
assisted c =
    let here = passed (odd (goal.at.After-is_assisted c).After-is_odd) c.if-is_odd.false in
    tests tt _ _ _ here.runs (not c.is_assisted.result) (ap not c.is_assisted.ensures)

pub returns-then-not-is_assisted : goal.returns-then-not-is_assisted
unfolding admitted storage keys odd assisted
returns-then-not-is_assisted c =
    rw c.stop-then-not-is_assisted.ensures (stopped_with
    (assisted (goal.at.returns-then-not-is_assisted c).After-is_assisted) (ap not c.if-not-is_assisted.true))

-- 9
abbrev mode : (c : After-is_wrong_mode)
    → Tested {S = Unit {0}} (λ u. machine c.args.storage.now c.args.keys.now)
    (λ u. program (length c.args.storage.now) (length c.args.keys.now) c.args.call)
unfolding admitted storage keys odd assisted
mode c =
    let here = passed (assisted (goal.at.After-is_wrong_mode c).After-is_assisted)
    (ap not c.if-not-is_assisted.false) in
    tests tt _ _ _ here.runs c.is_wrong_mode.result c.is_wrong_mode.ensures

pub returns-then-is_wrong_mode : goal.returns-then-is_wrong_mode
unfolding admitted storage keys odd assisted mode
returns-then-is_wrong_mode c =
    rw c.stop-then-is_wrong_mode.ensures (stopped_with
    (mode (goal.at.returns-then-is_wrong_mode c).After-is_wrong_mode) c.if-is_wrong_mode.true)

-- and then the instruction
pub returns : goal.returns
unfolding admitted storage keys odd assisted mode
returns c =
    let here = passed (mode (goal.at.returns c).After-is_wrong_mode) c.if-is_wrong_mode.false in
    continues c.instruction.new.storage c.instruction.new.keys here.runs c.instruction.ensures
