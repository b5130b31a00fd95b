-- The packed answer of a call on a trail, and what is written down of a call of the library.
use Prim.Native.Nat.{ℕ, ◌+◌, ◌*◌, ◌/◌, ◌%◌, ◌^◌, ◌<◌, ◌≤◌}
use native.Mathlib.Omega.{arith}
use mathlib.Core.Path.{◌≡◌, sym, ap, ◌∙◌}
use lib.ListN.{length}
use Rattle.rules.specs.declared.call.Call.{Call}
use Rattle.rules.specs.Machine.{Machine}
use Rattle.rules.specs.Endings.{numbers}
use Rattle.rules.specs.Call.{operation}
use Rattle.rules.proofs.Theorems.Answers.{every_call_answered}
use Rattle.rules.proofs.Theorems.Count.{count_bounded}
use Rattle.assist.specs.Attempted.{attempted}
use Rattle.trail.specs.declared.refusal.Refusal.{Refusal}
use Rattle.trail.specs.declared.refusal.Refusal.TheVariants.{NoTrailer, ShortBuffer}
use Rattle.std.specs.Prelude.{Option, None, Some}
use Rattle.trail.specs.Trails.{Trail, refusal_number}
use Rattle.vma.specs.Words.{guest_of}
use Rattle.vma.specs.Called.{called}
use Rattle.vma.specs.Recorded.{packed_trail, refusal_in, held_in, CallRecorded}
use Rattle.vma.proofs.Fields.{answer_fits}
use Rattle.vma.proofs.Inverse.{packing_inverse}

refusal_small : (r : Option Refusal) → refusal_number r < 256
refusal_small None = omega arith
refusal_small (Some NoTrailer) = omega arith
refusal_small (Some ShortBuffer) = omega arith

pub refusal_whole : (r : Option Refusal) → refusal_number r % 256 ≡ refusal_number r
refusal_whole r = let h = refusal_small r in omega arith

-- the parts of the packed answer
refusal_back : (t : Trail) → t.held < 2 ^ 32 → refusal_in (packed_trail t) ≡ refusal_number t.refusal
refusal_back t h =
    let small = refusal_small t.refusal in
    let n = refusal_number t.refusal in
    let top : (n * 2 ^ 56 + t.held) / 2 ^ 56 ≡ n = omega arith in
    ap (λ x. x % 2 ^ 8) top ∙ refusal_whole t.refusal

held_back : (t : Trail) → t.held < 2 ^ 32 → held_in (packed_trail t) ≡ t.held
held_back t h = let n = refusal_number t.refusal in omega arith

-- what comes back as one number, with the buffer left, is the trail that the definition gives
pub trail_packed : (t told : Trail) (r : ℕ) → t ≡ told → r ≡ packed_trail t → t.held < 2 ^ 32
    → (r ≡ packed_trail told)
    × ((refusal_in r ≡ refusal_number told.refusal)
    × ((held_in r ≡ told.held)
    × (t.buffer ≡ told.buffer)))
trail_packed t told r same result h = (
  result ∙ ap packed_trail same,
  (
    ap refusal_in result ∙ refusal_back t h ∙ ap (λ x. refusal_number x.refusal) same,
    (ap held_in result ∙ held_back t h ∙ ap (λ x. x.held) same, ap (λ x. x.buffer) same),
  ),
)

pub call_recorded : CallRecorded
unfolding attempted
call_recorded storage keys words first installed number =
    let m : Machine = record { storage = storage; keys = keys } in
    let call : Call = record { guest = guest_of words; first = first; installed = installed } in
    let r = called storage keys words first installed in
    let a = r.answer in
    let bound = count_bounded m call in
    let few : length r.references ≤ 85 = let l = bound.length in let b = bound.at_most in omega arith in
    let possible = (every_call_answered m call).possible in
    let fits = answer_fits (operation call) a.ending (length r.references) possible few in
    let back = packing_inverse.answer (numbers a.ending) (length r.references) fits in
    let psw = a.guest.psw in
    let next : (psw / 2 ^ 32 % 2 ^ 32 * 2 ^ 32 + psw % 2 ^ 32) % 2 ^ 24 ≡ psw % 2 ^ 24 = omega arith in
    λ i. record {
      number = number;
      call = call;
      ending = (back.0 i).number;
      code = (back.0 i).code;
      count = (back.1 ∙ sym bound.length) i;
      next = next i;
      translation = (back.0 i).address;
    }
