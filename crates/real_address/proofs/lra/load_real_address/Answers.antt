use Rattle.std.proofs.Common.{ℕ, not, ap}
use Rattle.rules.specs.LoadRealAddress.{load_real_address}
use Rattle.storage.specs.Answers.{machine}
use Rattle.storage.proofs.Laws.{begin, fresh, finishes}
use Rattle.storage.proofs.Stages.{
  Asked,
  asks,
  asks_after,
  given,
  ended_with,
  Tested,
  tests,
  passed,
  stopped_with,
}
use Rattle.real_address.proofs.lra.load_real_address.Goals as goal
use Rattle.real_address.proofs.lra.load_real_address.Goals.{After-assists_control, After-micblok_word, After-after}

-- step 1
abbrev assisted : (c : After-assists_control)
    → Tested {S = Unit {0}} (λ u. machine c.args.storage.now c.args.keys.now) (λ u. load_real_address c.args.call)
unfolding load_real_address
assisted c = tests tt _ _ _ (begin _ _) (not c.assists_control.result) (ap not c.assists_control.ensures)

pub returns-then-not-assists_control : goal.returns-then-not-assists_control
unfolding load_real_address assisted
returns-then-not-assists_control c =
    let test = assisted (goal.at.returns-then-not-assists_control c).After-assists_control in
    rw c.refuse.ensures (stopped_with test (ap not c.if-not-assists_control.true))

-- step 2: MICRSEG
abbrev rseg : (c : After-micblok_word)
    → Asked {S = Unit {0}} (λ u. machine c.args.storage.now c.args.keys.now) (λ u. load_real_address c.args.call) ℕ
unfolding load_real_address assisted
rseg c =
    let test = assisted (goal.at.After-micblok_word c).After-assists_control in
    asks tt _ _ (passed test (ap not c.if-not-assists_control.false)).runs c.micblok_word.result c.args.storage.now
    c.micblok_word.new.keys (fresh _ _ c.micblok_word.ensures)

pub returns-in_err-rseg : goal.returns-in_err-rseg
unfolding load_real_address assisted rseg
returns-in_err-rseg c =
    ended_with (rseg (goal.at.returns-in_err-rseg c).After-micblok_word) c.from_residual.result c.in_err-rseg.was
    c.from_residual.ensures.1

-- and MICCREG
abbrev creg : (c : After-after)
    → Asked {S = Unit {0}} (λ u. machine c.args.storage.now c.args.keys.now) (λ u. load_real_address c.args.call) ℕ
unfolding load_real_address assisted rseg
creg c =
    let here = given (rseg (goal.at.After-after c).After-micblok_word) c.in_ok-rseg.was in
    asks_after tt _ _ here.runs c.micblok_word-2.result c.after.result c.args.storage.now c.micblok_word-2.new.keys
    c.after.ensures c.micblok_word-2.ensures

pub returns-in_err-creg : goal.returns-in_err-creg
unfolding load_real_address assisted rseg creg
returns-in_err-creg c =
    ended_with (creg (goal.at.returns-in_err-creg c).After-after) c.from_residual-in_err-creg.result
    c.in_err-creg.was c.from_residual-in_err-creg.ensures.1

-- from step 3
pub returns : goal.returns
unfolding load_real_address assisted rseg creg
returns c =
    let here = given (creg (goal.at.returns c).After-after) c.in_ok-creg.was in
    finishes c.args.storage.now c.load_through.new.keys here.runs c.after-2.ensures
    (simp c.address_in-ecblok.ensures at c.load_through.ensures)
