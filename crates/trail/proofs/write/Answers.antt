use Rattle.std.proofs.Common.{ap, sym, ◌∙◌, ◌+◌}
use Rattle.std.specs.Prelude.{None}
use Rattle.trail.specs.Trails.{trail, add, turn_away}
use Rattle.trail.proofs.Cases.{refusal_told, same_number, written_refused, allowed, writes_added, writes_not_added}
use Rattle.trail.proofs.write.Goals as goal

pub returns-in_err-check_trailer-clause-trail : goal.returns-in_err-check_trailer-clause-trail
returns-in_err-check_trailer-clause-trail c =
    let a = c.args in
    let refused = c.in_err-check_trailer.ensures in
    refusal_told _ _ a.held a.buffer.now c.from_residual.ensures.1 refused.held
    ∙ written_refused a.buffer.now a.held a.entry _ refused.refusal

pub returns-in_err-check_trailer-clause-number : goal.returns-in_err-check_trailer-clause-number
returns-in_err-check_trailer-clause-number c = same_number (returns-in_err-check_trailer-clause-trail c)

pub returns-then-has_room-clause-trail : goal.returns-then-has_room-clause-trail
unfolding add
returns-then-has_room-clause-trail c =
    let a = c.args in
    let may = allowed a.buffer.now a.held c.in_ok-check_trailer.ensures.refusal in
    ap (λ b. trail None (a.held + 1) b) c.add.ensures
    ∙ sym (writes_added a.buffer.now a.held a.entry may.long may.found (sym c.if-has_room.ensures))

pub returns-then-has_room-clause-number : goal.returns-then-has_room-clause-number
returns-then-has_room-clause-number c = same_number (returns-then-has_room-clause-trail c)

pub returns-else-has_room-clause-trail : goal.returns-else-has_room-clause-trail
unfolding turn_away
returns-else-has_room-clause-trail c =
    let a = c.args in
    let may = allowed a.buffer.now a.held c.in_ok-check_trailer.ensures.refusal in
    ap (λ b. trail None a.held b) c.turn_away.ensures
    ∙ sym (writes_not_added a.buffer.now a.held a.entry may.long may.found (sym c.if-has_room.ensures))

pub returns-else-has_room-clause-number : goal.returns-else-has_room-clause-number
returns-else-has_room-clause-number c = same_number (returns-else-has_room-clause-trail c)
