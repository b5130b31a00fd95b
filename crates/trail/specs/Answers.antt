-- What the code's answer says of a trail, with the buffer that it leaves.
use Rattle.std.specs.Prelude.{ℕ, List, Option, None, Some, Result, Ok, Err}
use Rattle.trail.specs.Trails.{Trail, Refusal, trail}
pub use Rattle.trail.specs.declared.refusal.RefusedCall.{RefusedCall}

abbrev pub refusal_in : {A : Type 0} → Result A RefusedCall → Option Refusal
refusal_in (Ok a) = None
refusal_in (Err refused) = Some refused.refusal

-- the number of records held that is handed back, by a call that is refused too
abbrev pub held_in : Result ℕ RefusedCall → ℕ
held_in (Ok held) = held
held_in (Err refused) = refused.held

abbrev pub told : Result ℕ RefusedCall → (buffer : List ℕ) → Trail
told answer b = trail (refusal_in answer) (held_in answer) b
