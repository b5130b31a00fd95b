use Rattle.std.proofs.Common.{◌≡◌, ℕ, not, length, ap, ◌∙◌, arith}
use Rattle.rules.specs.Writes.{perform, store}
use Rattle.rules.specs.Masks.{mask_in}
use Rattle.rules.specs.ControlFields.{address_in}
use Rattle.rules.specs.Call.{immediate}
use Rattle.rules.specs.StoreThenMask.{new_mask, store_then}
use Rattle.rules.proofs.Present.{first_there, fetch_bytes-gives}
use Rattle.storage.specs.Answers.{machine}
use Rattle.storage.proofs.Laws.{begin, fresh, completes}
use Rattle.storage.proofs.Stages.{
  Asked,
  asks,
  asks_after,
  given,
  sure,
  ended_with,
  Tested,
  tests,
  passed,
  stopped_with,
}
use Rattle.masks.proofs.stnsm_stosm.store_then.Goals as goal
use Rattle.masks.proofs.stnsm_stosm.store_then.Goals.{
  After-assists_control,
  After-micblok_word,
  After-after,
  After-new_mask-new,
  After-needs_expanded,
  After-after-2,
}

-- step 1
abbrev assisted : (c : After-assists_control)
    → Tested {S = Unit {0}} (λ u. machine c.args.storage.now c.args.keys.now)
    (λ u. store_then c.args.change c.args.call)
unfolding store_then
assisted c =
    tests tt _ _ _ (begin _ _) (not c.assists_control.result) (ap not c.assists_control.ensures)

pub returns-then-not-assists_control : goal.returns-then-not-assists_control
unfolding store_then assisted
returns-then-not-assists_control c =
    let test = assisted (goal.at.returns-then-not-assists_control c).After-assists_control in
    rw c.refuse.ensures (stopped_with test (ap not c.if-not-assists_control.true))

-- step 2: MICVPSW
abbrev vpsw : (c : After-micblok_word)
    → Asked {S = Unit {0}} (λ u. machine c.args.storage.now c.args.keys.now)
    (λ u. store_then c.args.change c.args.call) ℕ
unfolding store_then assisted
vpsw c =
    let test = assisted (goal.at.After-micblok_word c).After-assists_control in
    asks tt _ _ (passed test (ap not c.if-not-assists_control.false)).runs c.micblok_word.result c.args.storage.now
    c.micblok_word.new.keys (fresh _ _ c.micblok_word.ensures)

pub returns-in_err-vpsw : goal.returns-in_err-vpsw
unfolding store_then assisted vpsw
returns-in_err-vpsw c =
    ended_with (vpsw (goal.at.returns-in_err-vpsw c).After-micblok_word) c.from_residual.result c.in_err-vpsw.was
    c.from_residual.ensures.1

-- step 3: the first halfword of the virtual PSW
abbrev first : (c : After-after)
    → Asked {S = Unit {0}} (λ u. machine c.args.storage.now c.args.keys.now)
    (λ u. store_then c.args.change c.args.call) ℕ
unfolding store_then assisted vpsw
first c =
    let here = given (vpsw (goal.at.After-after c).After-micblok_word) c.in_ok-vpsw.was in
    asks_after tt _ _ here.runs c.control_field.result c.after.result c.args.storage.now c.control_field.new.keys
    c.after.ensures (simp c.address_in-at.ensures at c.control_field.ensures)

pub returns-in_err-first : goal.returns-in_err-first
unfolding store_then assisted vpsw first
returns-in_err-first c =
    ended_with (first (goal.at.returns-in_err-first c).After-after) c.from_residual-in_err-first.result
    c.in_err-first.was c.from_residual-in_err-first.ensures.1

-- step 4
changed : (c : After-new_mask-new)
    → c.new_mask-new.result ≡ new_mask c.args.change (mask_in c.in_ok-first.first.value) (immediate c.args.call)
changed c =
    simp (c.mask_in-old.ensures.0, c.immediate.ensures) at c.new_mask-new.ensures

abbrev expands : (c : After-needs_expanded)
    → Tested {S = Unit {0}} (λ u. machine c.args.storage.now c.args.keys.now)
    (λ u. store_then c.args.change c.args.call)
unfolding store_then assisted vpsw first
expands c =
    let here = given (first (goal.at.After-needs_expanded c).After-after) c.in_ok-first.was in
    tests tt _ _ _ here.runs c.needs_expanded.result
    (simp (
      c.is_extended.ensures,
      c.is_pending.ensures,
      c.mask_in-old.ensures.0,
      changed (goal.at.After-needs_expanded c).After-new_mask-new,
    ) at c.needs_expanded.ensures)

pub returns-then-needs_expanded : goal.returns-then-needs_expanded
unfolding store_then assisted vpsw first expands
returns-then-needs_expanded c =
    let test = expands (goal.at.returns-then-needs_expanded c).After-needs_expanded in
    rw (c.stop.ensures, c.expanded.ensures) (stopped_with test c.if-needs_expanded.true)

-- steps 5 and 6: the operand
abbrev operand : (c : After-after-2)
    → Asked {S = Unit {0}} (λ u. machine c.args.storage.now c.args.keys.now)
    (λ u. store_then c.args.change c.args.call) ℕ
unfolding store_then assisted vpsw first expands
operand c =
    let test = expands (goal.at.After-after-2 c).After-needs_expanded in
    asks_after tt _ _ (passed test c.if-needs_expanded.false).runs c.byte_operand.result c.after-2.result
    c.args.storage.now c.byte_operand.new.keys c.after-2.ensures c.byte_operand.ensures

pub returns-in_err-operand : goal.returns-in_err-operand
unfolding store_then assisted vpsw first expands operand
returns-in_err-operand c =
    ended_with (operand (goal.at.returns-in_err-operand c).After-after-2) c.from_residual-in_err-operand.result
    c.in_err-operand.was c.from_residual-in_err-operand.ensures.1

-- step 7: the old mask, then the new one, where the first halfword was fetched
pub put_mask-requires : goal.put_mask-requires
unfolding store_then assisted vpsw first
put_mask-requires c =
    let asked = first (goal.at.put_mask-requires c).After-after in
    let s = length asked.left.storage in
    let fetched = sure _ asked c.in_ok-first.was (fetch_bytes-gives s (length asked.left.keys) _ 2 _) in
    let there = first_there s _ 1 fetched in
    omega (arith, there, c.address_in-at.ensures, c.store_byte.auto.storage)

pub returns : goal.returns
unfolding store_then assisted vpsw first expands operand
returns c =
    let a = c.args in
    let here = given (operand (goal.at.returns c).After-after-2) c.in_ok-operand.was in
    let new = store (address_in c.in_ok-vpsw.vpsw.value) 1
    (new_mask a.change (mask_in c.in_ok-first.first.value) (immediate a.call)) in
    completes c.put_mask.new.storage c.put_mask.new.keys _ here.runs c.completed.ensures
    (simp (changed (goal.at.returns c).After-new_mask-new, c.address_in-at.ensures) at c.put_mask.ensures
    ∙ ap (λ m. perform m new)
    (c.store_byte.ensures
    ∙ ap (λ v. perform here.left (store c.in_ok-operand.operand.value 1 v)) c.mask_in-old.ensures.0))
