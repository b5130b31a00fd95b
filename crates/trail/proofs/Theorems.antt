-- The proofs of what specs/Theorems.antt states of whole runs and of records. AnyBuffer.antt has those of any buffer.
use Prim.Native.Nat.{ℕ, zero, suc, ◌<◌, ◌+◌, ◌-◌, ◌≤◌, min}
use native.Mathlib.Omega.{arith}
use mathlib.Core.Path.{◌≡◌, refl, sym, ap, ◌∙◌, subst}
use native.Mathlib.Nat.{zero-add, sub-zero}
use mathlib.Core.List.{List, [], ◌∷◌, ◌++◌, append_assoc}
use lib.ListN.{length, take, drop}
use lib.Seq.{take_at, sets-eq}
use borrow.Author.Tests.{le-ltb}
use Rattle.trail.specs.Words.{word_at}
use Rattle.trail.specs.Records.{Entry, record_bytes, trailer_bytes}
use Rattle.std.specs.Prelude.{None}
use Rattle.trail.specs.Trails.{Trail, trail, start, distance, largest, trailer_size, turned_away}
use Rattle.trail.specs.Runs.{write_on, write_all, run, went_in, records_from}
use Rattle.trail.specs.Theorems.{recorded, capacity, RunKept, NoneWrittenOver, RecordLength, AttemptFits}
use Rattle.rules.specs.Call.{operation}
use Rattle.rules.specs.Attempt.{attempt}
use Rattle.rules.proofs.Theorems.Answers.{every_call_answered}
use Rattle.rules.proofs.Theorems.Count.{count_bounded}
use Rattle.rules.proofs.Small.{answer_small}
use Rattle.trail.proofs.Standing.{standing, Sound, word_behind, word_back, record_length, standing_turned}
use Rattle.trail.proofs.Kept.{trail_of, After, after}

-- ---- a whole run

empty : (b : List ℕ) → trailer_size ≤ length b → Sound b [] 0 0
empty b h = record { front = refl; low = omega arith; small = omega arith; fits = h }

started : (b : List ℕ) → trailer_size ≤ length b → start b ≡ trail_of b [] 0 0
unfolding start
started b h =
    simp (le-ltb (length b) 16 h)
    (ap (λ l. trail None 0 l) (sets-eq (trailer_bytes 0 0 0) b 0 h))

module _ (b : List ℕ) (es : List Entry) (h : trailer_size ≤ length b) where
  all : After b [] 0 0 es
  all = after es b [] 0 0 (empty b h)

  went : recorded b es ≡ all.went
  went = ap (λ t. went_in t es) (started b h) ∙ all.is

  -- the run, by the records that went in
  record Told (w : List Entry) : Type 0 where
    is : run b es ≡ trail_of b (records_from 0 w) (length w) (min (length es - length w) largest)
    sound : Sound b (records_from 0 w) (length w) (min (length es - length w) largest)
    few : length w ≤ length es
    earliest : w ≡ take (capacity (length b)) es

  whole : Told (recorded b es)
  whole =
      let w = all.went in
      let n = zero-add (length w) in
      let k = ap (λ x. min x largest) (zero-add (length es - length w)) in
      let trail = ap (λ t. write_all t es) (started b h) ∙ all.trail ∙ (λ i. trail_of b (records_from 0 w) (n i)
      (k i)) in
      let sound = subst (λ x. x) (λ i. Sound b (records_from 0 w) (n i) (k i)) all.sound in
      let earliest = all.all ∙ ap (λ m. take m es) (sub-zero (capacity (length b))) in
      subst Told (sym went) (record { is = trail; sound = sound; few = all.few; earliest = earliest })

  counts : let t = run b es in
      length es ≤ t.held + largest → t.held + turned_away t.buffer t.held ≡ length es
  counts =
      let w = recorded b es in
      let turned = standing_turned b (records_from 0 w) (length w) (min (length es - length w) largest) whole.sound in
      let few = whole.few in
      subst (λ t. length es ≤ t.held + largest → t.held + turned_away t.buffer t.held ≡ length es)
      (sym whole.is)
      (λ (c : length es ≤ length w + largest). ap (λ x. length w + x) turned ∙ summed (length es) (length w) few c)
    where
      summed : (a n : ℕ) → n ≤ a → a ≤ n + largest → n + min (a - n) largest ≡ a
      summed a n p q = omega arith

-- the first word of a record is its sequence number
sequence_first : (n : ℕ) (e : Entry) (rest : List ℕ) → n ≤ largest → word_at (record_bytes n e ++ rest) 0 ≡ n
unfolding record_bytes
sequence_first n e rest h = word_back n h

sequence_at : (w : List Entry) (n i : ℕ) (rest : List ℕ) → i < length w → n + i ≤ largest
    → word_at (records_from n w ++ rest) (distance i) ≡ n + i
sequence_at [] n i rest h low = absurd (omega arith)
sequence_at (e ∷ w) n zero rest h low =
    let same : n ≡ n + 0 = omega arith in
    let small : n ≤ largest = omega arith in
    ap (λ l. word_at l 0) (append_assoc (record_bytes n e) (records_from (n + 1) w) rest)
    ∙ sequence_first n e (records_from (n + 1) w ++ rest) small
    ∙ same
sequence_at (e ∷ w) n (suc i) rest h low =
    let place : distance (suc i) ≡ 128 + distance i = omega arith in
    let less : i < length w = omega arith in
    let small : n + 1 + i ≤ largest = omega arith in
    let same : n + 1 + i ≡ n + suc i = omega arith in
    ap (λ l. word_at l (distance (suc i))) (append_assoc (record_bytes n e) (records_from (n + 1) w) rest)
    ∙ word_behind (record_bytes n e) (records_from (n + 1) w ++ rest) 128 (distance i) (distance (suc i))
    (record_length n e) place
    ∙ sequence_at w (n + 1) i rest less small
    ∙ same

low_places : (n i : ℕ) → i < n → distance n ≤ largest → 0 + i ≤ largest
low_places n i h k = omega arith

pub run_kept : RunKept
run_kept b es h =
    let w = recorded b es in
    let told = whole b es h in
    let n = length w in
    let trailer = trailer_bytes (distance n) n (min (length es - n) largest) in
    record {
      not_refused = ap (λ t. t.refusal) told.is;
      held = ap (λ t. t.held) told.is;
      layout = ap (λ t. t.buffer) told.is ∙ sym (append_assoc (records_from 0 w) trailer (drop (distance n + 16) b));
      sequences = λ i less. ap (λ t. word_at t.buffer (distance i)) told.is
          ∙ sequence_at w 0 i (trailer ++ drop (distance n + 16) b) less (low_places n i less told.sound.low)
          ∙ zero-add i;
      counted = counts b es h;
      earliest = told.earliest;
    }

write_all_lem : (t : Trail) (es later : List Entry) → write_all t (es ++ later) ≡ write_all (write_all t es) later
write_all_lem t [] later = refl
write_all_lem t (e ∷ es) later = write_all_lem (write_on t e) es later

-- the records that fill the front stay
front_stays : (b records : List ℕ) (n k : ℕ) (later : List Entry) → Sound b records n k
    → take (distance n) (write_all (trail_of b records n k) later).buffer ≡ take (distance n) (standing b records n k)
front_stays b records n k later s =
    let a = after later b records n k s in
    let w = records_from n a.went in
    let rest = trailer_bytes _ _ _ ++ drop (distance (n + length a.went) + 16) b in
    ap (λ t. take (distance n) t.buffer) a.trail
    ∙ ap (take (distance n)) (append_assoc records w rest)
    ∙ take_at records (w ++ rest) (distance n) s.front
    ∙ sym (take_at records (trailer_bytes (distance n) n k ++ drop (distance n + 16) b) (distance n) s.front)

pub none_written_over : NoneWrittenOver
none_written_over b es later h =
    let told = whole b es h in
    ap (λ t. take (distance (run b es).held) t.buffer) (write_all_lem (start b) es later)
    ∙ subst (λ t. take (distance t.held) (write_all t later).buffer ≡ take (distance t.held) t.buffer)
    (sym told.is) (front_stays b _ _ _ later told.sound)

-- ---- what a record says of an attempt

pub record_bytes_lem : RecordLength
record_bytes_lem = record_length

pub attempt_fits : AttemptFits
attempt_fits m c guest =
    let small = answer_small (operation c) (attempt m c).answer.ending (every_call_answered m c).possible in
    let number = small.number in
    let code = small.code in
    let address = small.address in
    let count = (count_bounded m c).at_most in
    record {
      ending = number;
      code = omega arith;
      count = omega arith;
      next = omega arith;
      translation = omega arith;
    }
