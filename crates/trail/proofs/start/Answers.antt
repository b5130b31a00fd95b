use Rattle.std.proofs.Common.{ap, ◌∙◌, le-ltb}
use Rattle.std.specs.Prelude.{None}
use Rattle.trail.specs.Trails.{trail, start}
use Rattle.trail.proofs.Cases.{refusal_told, same_number, start_refused, long_enough}
use Rattle.trail.proofs.start.Goals as goal

pub returns-in_err-check_length-clause-trail : goal.returns-in_err-check_length-clause-trail
returns-in_err-check_length-clause-trail c =
    let b = c.args.buffer.now in
    let refused = c.in_err-check_length.ensures in
    refusal_told _ _ 0 b c.from_residual.ensures.1 refused.held ∙ start_refused b _ refused.refusal

pub returns-in_err-check_length-clause-number : goal.returns-in_err-check_length-clause-number
returns-in_err-check_length-clause-number c = same_number (returns-in_err-check_length-clause-trail c)

pub returns-clause-trail : goal.returns-clause-trail
unfolding start
returns-clause-trail c =
    let long = long_enough c.args.buffer.now c.in_ok-check_length.ensures.refusal in
    simp (le-ltb _ _ long) (ap (λ b. trail None 0 b) c.put_words.ensures)

pub returns-clause-number : goal.returns-clause-number
returns-clause-number c = same_number (returns-clause-trail c)
