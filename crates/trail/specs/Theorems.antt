-- What is proved of trails. The proofs are in proofs/Theorems.antt, and for any buffer in proofs/AnyBuffer.antt.
use Rattle.std.specs.Prelude.{ℕ, ◌+◌, ◌-◌, ◌/◌, ◌^◌, ◌<◌, ◌≤◌, min, ltb}
use Rattle.std.specs.Prelude.{◌≡◌, cond, ◌⊎◌, None, Some, List, ◌++◌, length, take, drop}
use Rattle.rules.specs.Machine.{Machine}
use Rattle.rules.specs.declared.call.Call.{Call}
use Rattle.rules.specs.Attempt.{attempt}
use Rattle.trail.specs.Words.{word_at}
use Rattle.trail.specs.Records.{Entry, entry_of, record_bytes, trailer_bytes}
use Rattle.trail.specs.Trails.{
  Trail,
  NoTrailer,
  ShortBuffer,
  start,
  write,
  distance,
  largest,
  trailer_size,
  trailer_found,
  turned_away,
}
use Rattle.trail.specs.Runs.{run, went_in, records_from}

-- ---- a whole run: a start and then any list of writing calls

-- those of the calls whose record went in
abbrev pub recorded : (buffer : List ℕ) → List Entry → List Entry
recorded b es = went_in (start b) es

-- how many records a buffer of so many bytes has room for, with the trailer; their distance has four bytes
abbrev pub capacity : (bytes : ℕ) → ℕ
capacity bytes = min ((bytes - trailer_size) / 128) (largest / 128)

pub record Kept (buffer : List ℕ) (entries : List Entry) : Type 0 where
  -- the last call isn't refused; this holds of every list, so none is
  pub not_refused : (run buffer entries).refusal ≡ None
  -- the number handed back is that of the records that went in
  pub held : (run buffer entries).held ≡ length (recorded buffer entries)
  -- the buffer begins with exactly these records, in order; the trailer stands right after them, and counts those held
  -- and those turned away; every byte after it is as it was
  pub layout : let n = length (recorded buffer entries) in
      (run buffer entries).buffer
      ≡ records_from 0 (recorded buffer entries)
      ++ trailer_bytes (distance n) n (min (length entries - n) largest)
      ++ drop (distance n + trailer_size) buffer
  -- the records' first words are the sequence numbers 0, 1, 2, ..
  pub sequences : (i : ℕ) → i < length (recorded buffer entries)
      → word_at (run buffer entries).buffer (distance i) ≡ i
  -- held and turned away are together the number of writing calls, while the latter is below the ceiling
  pub counted : let t = run buffer entries in
      length entries ≤ t.held + largest → t.held + turned_away t.buffer t.held ≡ length entries
  -- as many went in as there is room for: the earliest
  pub earliest : recorded buffer entries ≡ take (capacity (length buffer)) entries

abbrev pub RunKept : Type 0
RunKept = (buffer : List ℕ) (entries : List Entry) → trailer_size ≤ length buffer → Kept buffer entries

-- No record is written over: those held after some of the calls stand there unchanged after all of them.
abbrev pub NoneWrittenOver : Type 0
NoneWrittenOver = (buffer : List ℕ) (entries later : List Entry) → trailer_size ≤ length buffer
    → let n = (run buffer entries).held in
    take (distance n) (run buffer (entries ++ later)).buffer ≡ take (distance n) (run buffer entries).buffer

-- ---- any buffer at all, and any number given

-- which calls are refused, and by which number
pub record Refused : Type 0 where
  pub on_start : (buffer : List ℕ)
      → (start buffer).refusal ≡ cond (ltb (length buffer) trailer_size) (Some ShortBuffer) None
  pub on_write : (buffer : List ℕ) (held : ℕ) (e : Entry)
      → (write buffer held e).refusal
      ≡ cond (ltb (length buffer) trailer_size) (Some ShortBuffer)
      (cond (trailer_found buffer held) None (Some NoTrailer))

-- a call that is refused changes nothing, and hands back the number given (starting hands back zero)
pub record RefusalsChangeNothing : Type 0 where
  pub on_start : (buffer : List ℕ) → ((start buffer).refusal ≡ None → ⊥)
      → ((start buffer).buffer ≡ buffer) × ((start buffer).held ≡ 0)
  pub on_write : (buffer : List ℕ) (held : ℕ) (e : Entry) → ((write buffer held e).refusal ≡ None → ⊥)
      → ((write buffer held e).buffer ≡ buffer) × ((write buffer held e).held ≡ held)

-- t came of a writing call on this buffer, with this number given: no byte was changed but those of the record that
-- went in and of the trailer
pub record OthersUnchanged (buffer : List ℕ) (held : ℕ) (t : Trail) : Type 0 where
  pub size : length t.buffer ≡ length buffer
  pub before : take (distance held) t.buffer ≡ take (distance held) buffer
  pub after : drop (distance t.held + trailer_size) t.buffer ≡ drop (distance t.held + trailer_size) buffer
  -- one record went in, or none
  pub step : (t.held ≡ held) ⊎ (t.held ≡ held + 1)
  -- where none went in, no byte was changed but those of the turned-away number
  pub none_in : t.held ≡ held
      → (take (distance held + 8) t.buffer ≡ take (distance held + 8) buffer)
      × (drop (distance held + 12) t.buffer ≡ drop (distance held + 12) buffer)
  -- where one went in, that number stayed (a number of four bytes, as every one in a buffer is)
  pub one_in : t.held ≡ held + 1 → turned_away buffer held ≤ largest
      → turned_away t.buffer t.held ≡ turned_away buffer held

pub record NoOtherByteChanged : Type 0 where
  pub on_start : (buffer : List ℕ)
      → (length (start buffer).buffer ≡ length buffer)
      × (drop trailer_size (start buffer).buffer ≡ drop trailer_size buffer)
  pub on_write : (buffer : List ℕ) (held : ℕ) (e : Entry) → OthersUnchanged buffer held (write buffer held e)

-- ---- what a record says of an attempt

-- a record has 128 bytes
abbrev pub RecordLength : Type 0
RecordLength = (sequence : ℕ) (e : Entry) → length (record_bytes sequence e) ≡ 128

-- no number of an attempt's answer is cut: each fits its bytes
pub record Fits (e : Entry) : Type 0 where
  pub ending : e.ending < 2 ^ 8
  pub code : e.code < 2 ^ 16
  pub count : e.count < 2 ^ 16
  pub next : e.next < 2 ^ 32
  pub translation : e.translation < 2 ^ 32

abbrev pub AttemptFits : Type 0
AttemptFits = (m : Machine) (c : Call) (guest_number : ℕ) → Fits (entry_of guest_number c (attempt m c).answer)
