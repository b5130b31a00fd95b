use Rattle.std.proofs.Common.{ℕ, not, ◌&&◌}
use Rattle.rules.specs.SetSystemMask.{mask_target}
use Rattle.storage.specs.Answers.{machine}
use Rattle.storage.proofs.Laws.{begin, fresh, settles}
use Rattle.storage.proofs.Stages.{Asked, asks, asks_after, given, handed, Tested, tests, passed, stopped}
use Rattle.masks.proofs.ssm.mask_target.Goals as goal
use Rattle.masks.proofs.ssm.mask_target.Goals.{After-micblok_word, After-after, After-mask_needs_expanded, After-any_rises_pending}

-- step 7: MICVPSW
abbrev vpsw : (c : After-micblok_word)
    → Asked {S = Unit {0}} (λ u. machine c.args.storage.now c.args.keys.now) (λ u. mask_target c.args.call c.args.new) ℕ
unfolding mask_target
vpsw c =
    asks tt _ _ (begin _ _) c.micblok_word.result c.args.storage.now c.micblok_word.new.keys
    (fresh _ _ c.micblok_word.ensures)

pub returns-in_err-vpsw : goal.returns-in_err-vpsw
unfolding mask_target vpsw
returns-in_err-vpsw c =
    handed (vpsw (goal.at.returns-in_err-vpsw c).After-micblok_word) c.from_residual.result c.in_err-vpsw.was
    c.from_residual.ensures.1

-- step 8: the first halfword of the virtual PSW
abbrev first : (c : After-after)
    → Asked {S = Unit {0}} (λ u. machine c.args.storage.now c.args.keys.now) (λ u. mask_target c.args.call c.args.new) ℕ
unfolding mask_target vpsw
first c =
    let here = given (vpsw (goal.at.After-after c).After-micblok_word) c.in_ok-vpsw.was in
    asks_after tt _ _ here.runs c.control_field.result c.after.result c.args.storage.now c.control_field.new.keys
    c.after.ensures (simp c.address_in-at.ensures at c.control_field.ensures)

pub returns-in_err-first : goal.returns-in_err-first
unfolding mask_target vpsw first
returns-in_err-first c =
    handed (first (goal.at.returns-in_err-first c).After-after) c.from_residual-in_err-first.result
    c.in_err-first.was c.from_residual-in_err-first.ensures.1

-- step 9 in the EC mode
abbrev extended : (c : After-mask_needs_expanded)
    → Tested {S = Unit {0}} (λ u. machine c.args.storage.now c.args.keys.now) (λ u. mask_target c.args.call c.args.new)
unfolding mask_target vpsw first
extended c =
    let here = given (first (goal.at.After-mask_needs_expanded c).After-after) c.in_ok-first.was in
    tests tt _ _ _ here.runs (c.is_extended-ec.result && c.mask_needs_expanded.result)
    (simp (
      c.is_extended-ec.ensures,
      c.mask_needs_expanded.ensures,
      c.is_pending-pending.ensures,
      c.mask_in-old.ensures.0,
    ))

pub returns-then-ec-mask_needs_expanded : goal.returns-then-ec-mask_needs_expanded
unfolding mask_target vpsw first extended
returns-then-ec-mask_needs_expanded c =
    let test = extended (goal.at.returns-then-ec-mask_needs_expanded c).After-mask_needs_expanded in
    rw (c.stop.ensures, c.expanded.ensures) (stopped test c.if-ec-mask_needs_expanded.true)

-- and in the BC mode
abbrev basic : (c : After-any_rises_pending)
    → Tested {S = Unit {0}} (λ u. machine c.args.storage.now c.args.keys.now) (λ u. mask_target c.args.call c.args.new)
unfolding mask_target vpsw first extended
basic c =
    let test = extended (goal.at.After-any_rises_pending c).After-mask_needs_expanded in
    tests tt _ _ _ (passed test c.if-ec-mask_needs_expanded.false).runs
    (not c.is_extended-ec.result && c.any_rises_pending.result)
    (simp (
      c.is_extended-ec.ensures,
      c.any_rises_pending.ensures,
      c.is_pending-pending.ensures,
      c.mask_in-old.ensures.0,
    ))

pub returns-then-ec-any_rises_pending : goal.returns-then-ec-any_rises_pending
unfolding mask_target vpsw first extended basic
returns-then-ec-any_rises_pending c =
    let test = basic (goal.at.returns-then-ec-any_rises_pending c).After-any_rises_pending in
    rw c.refuse.ensures (stopped test c.if-ec-any_rises_pending.true)

pub returns : goal.returns
unfolding mask_target vpsw first extended basic
returns c =
    let test = basic (goal.at.returns c).After-any_rises_pending in
    simp c.address_in-at.ensures (settles _ (passed test c.if-ec-any_rises_pending.false).runs)
