-- The proofs of what specs/Theorems.antt states of any buffer and any number given.
use Prim.Native.Nat.{ℕ, ◌+◌, ◌≤◌}
use native.Mathlib.Omega.{arith}
use mathlib.Core.Path.{◌≡◌, refl, sym, ap, ◌∙◌, subst}
use mathlib.Core.Bool.{Bool, true, false, cond, not}
use mathlib.Core.Logic.{inl, inr}
use mathlib.Core.List.{List, ◌++◌}
use lib.ListN.{length, take, drop, length-append}
use lib.Dec.{ltb}
use lib.Seq.{take-take, drop-drop, length-take-le, sets, sets-eq, length-sets}
use Rattle.trail.specs.Words.{big_endian}
use Rattle.trail.specs.Records.{Entry, record_bytes, trailer_bytes}
use Rattle.std.specs.Prelude.{Option, None, Some}
use Rattle.trail.specs.Trails.{
  Refusal,
  NoTrailer,
  ShortBuffer,
  trail,
  start,
  write,
  distance,
  trailer_size,
  turned_away,
  trailer_found,
  has_room,
  one_more,
  add,
  turn_away,
}
use Rattle.trail.specs.Theorems.{Refused, RefusalsChangeNothing, OthersUnchanged, NoOtherByteChanged}
use Rattle.trail.proofs.Puts.{sets_before, sets_after}
use Rattle.trail.proofs.Cases.{room, found_whole, start_cases, write_cases}
use Rattle.trail.proofs.Standing.{word_behind, word_back, record_length, added_length, regroup}

-- ---- which calls are refused

start_refused : (b : List ℕ) → (start b).refusal ≡ cond (ltb (length b) trailer_size) (Some ShortBuffer) None
unfolding start
start_refused b = by (ltb (length b) trailer_size)
  where
    by : (x : Bool)
        → (cond x (trail (Some ShortBuffer) 0 b) (trail None 0 (sets b 0 (trailer_bytes 0 0 0)))).refusal
        ≡ cond x (Some ShortBuffer) None
    by true = refl
    by false = refl

write_refused : (b : List ℕ) (held : ℕ) (e : Entry)
    → (write b held e).refusal
    ≡ cond (ltb (length b) trailer_size) (Some ShortBuffer) (cond (trailer_found b held) None (Some NoTrailer))
unfolding write add turn_away
write_refused b held e = by (ltb (length b) trailer_size) (trailer_found b held) (has_room (length b) held)
  where
    by : (x y z : Bool)
        → (cond x (trail (Some ShortBuffer) held b)
        (cond (not y) (trail (Some NoTrailer) held b) (cond z (add b held e) (turn_away b held)))).refusal
        ≡ cond x (Some ShortBuffer) (cond y None (Some NoTrailer))
    by true y z = refl
    by false true true = refl
    by false true false = refl
    by false false z = refl

pub refused : Refused
refused = record { on_start = start_refused; on_write = write_refused }

-- ---- a refusal changes nothing

nothing_started : (b : List ℕ) → ((start b).refusal ≡ None → ⊥) → ((start b).buffer ≡ b) × ((start b).held ≡ 0)
nothing_started b =
    start_cases b (λ t. (t.refusal ≡ None → ⊥) → (t.buffer ≡ b) × (t.held ≡ 0))
    (λ h. (refl, refl))
    (λ l h. absurd (h refl))

nothing_written : (b : List ℕ) (held : ℕ) (e : Entry) → ((write b held e).refusal ≡ None → ⊥)
    → ((write b held e).buffer ≡ b) × ((write b held e).held ≡ held)
unfolding add turn_away
nothing_written b held e =
    write_cases b held e (λ t. (t.refusal ≡ None → ⊥) → (t.buffer ≡ b) × (t.held ≡ held))
    (λ h. (refl, refl))
    (λ h. (refl, refl))
    (λ f r h. absurd (h refl))
    (λ f r h. absurd (h refl))

pub refusals_change_nothing : RefusalsChangeNothing
refusals_change_nothing = record { on_start = nothing_started; on_write = nothing_written }

-- ---- which bytes are changed

after_start : (b : List ℕ)
    → (length (start b).buffer ≡ length b) × (drop trailer_size (start b).buffer ≡ drop trailer_size b)
after_start b =
    start_cases b (λ t. (length t.buffer ≡ length b) × (drop trailer_size t.buffer ≡ drop trailer_size b))
    (refl, refl)
    (λ l. (length-sets b 0 (trailer_bytes 0 0 0), sets_after b (trailer_bytes 0 0 0) 0 l))

unchanged : (b : List ℕ) (held : ℕ) (refusal : Option Refusal) → OthersUnchanged b held (trail refusal held b)
unchanged b held refusal = record {
  size = refl;
  before = refl;
  after = refl;
  step = inl refl;
  none_in = λ same. (refl, refl);
  one_in = λ (more : held ≡ held + 1) h. absurd (omega arith);
}

after_add : (b : List ℕ) (held : ℕ) (e : Entry) → has_room (length b) held ≡ true
    → OthersUnchanged b held (add b held e)
unfolding add
after_add b held e seen =
    let d = distance held in
    let new = record_bytes held e in
    let trailer = trailer_bytes (distance (held + 1)) (held + 1) (turned_away b held) in
    let rest = drop (d + length (new ++ trailer)) b in
    let many = added_length held e (distance (held + 1)) (held + 1) (turned_away b held) in
    let wide = (room (length b) held seen).fits in
    let fits : d + length (new ++ trailer) ≤ length b = omega arith in
    let end : d + length (new ++ trailer) ≡ distance (held + 1) + trailer_size = omega arith in
    let whole = sets-eq (new ++ trailer) b d fits ∙ regroup (take d b) new trailer rest in
    let short : d ≤ length b = omega arith in
    let front : length (take d b ++ new) ≡ distance (held + 1) =
    length-append (take d b) new
    ∙ ap (λ n. n + length new) (length-take-le d b short)
    ∙ ap (λ n. d + n) (record_length held e)
    ∙ omega arith in
    record {
      size = length-sets b d (new ++ trailer);
      before = sets_before b (new ++ trailer) d fits;
      after = subst (λ n. drop n (sets b d (new ++ trailer)) ≡ drop n b) end (sets_after b (new ++ trailer) d fits);
      step = inr refl;
      none_in = λ (same : held + 1 ≡ held). absurd (omega arith);
      one_in = λ more h. ap (λ l. turned_away l (held + 1)) whole
          ∙ word_behind (take d b ++ new) (trailer ++ rest) (distance (held + 1)) 8 (distance (held + 1) + 8) front refl
          ∙ word_back (turned_away b held) h;
    }

after_turn_away : (b : List ℕ) (held : ℕ) → trailer_found b held ≡ true → OthersUnchanged b held (turn_away b held)
unfolding turn_away
after_turn_away b held found =
    let d = distance held in
    let bytes = big_endian 4 (one_more (turned_away b held)) in
    let new = sets b (d + 8) bytes in
    let whole = found_whole b held found in
    let fits : d + 8 + 4 ≤ length b = omega arith in
    let end : d + 8 + 4 ≡ d + 12 = omega arith in
    let further : d + 12 + 4 ≡ d + trailer_size = omega arith in
    let less : d ≤ d + 8 = omega arith in
    let before = sets_before b bytes (d + 8) fits in
    let behind = subst (λ n. drop n new ≡ drop n b) end (sets_after b bytes (d + 8) fits) in
    record {
      size = length-sets b (d + 8) bytes;
      before = sym (take-take d (d + 8) new less) ∙ ap (take d) before ∙ take-take d (d + 8) b less;
      after = subst (λ n. drop n new ≡ drop n b) further
          (sym (drop-drop 4 (d + 12) new) ∙ ap (drop 4) behind ∙ drop-drop 4 (d + 12) b);
      step = inl refl;
      none_in = λ same. (before, behind);
      one_in = λ (more : held ≡ held + 1) h. absurd (omega arith);
    }

after_write : (b : List ℕ) (held : ℕ) (e : Entry) → OthersUnchanged b held (write b held e)
after_write b held e =
    write_cases b held e (OthersUnchanged b held)
    (unchanged b held (Some ShortBuffer))
    (unchanged b held (Some NoTrailer))
    (λ f r. after_add b held e r)
    (λ f r. after_turn_away b held f)

pub no_other_byte_changed : NoOtherByteChanged
no_other_byte_changed = record { on_start = after_start; on_write = after_write }
