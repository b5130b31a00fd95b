-- Starting a trail, and writing a call down. Request R-1.
use Rattle.std.specs.Prelude.{ℕ, ◌+◌, ◌*◌, min, Bool, cond, not, ◌&&◌, List, ◌++◌, length, eqb, ltb, leb}
use Rattle.std.specs.Prelude.{Option, None, Some}
use Rattle.std.proofs.lemmas.List.Edits.{sets}
use Rattle.trail.specs.Words.{big_endian, word_at}
use Rattle.trail.specs.Records.{Entry, record_bytes, trailer_bytes, version}
pub use Rattle.trail.specs.declared.refusal.Refusal.{Refusal}
pub use Rattle.trail.specs.declared.refusal.Refusal.TheVariants.{NoTrailer, ShortBuffer}

-- the numbers of the refusals, which join document 01's table; zero where there is none
abbrev pub refusal_number : Option Refusal → ℕ
refusal_number None = 0
refusal_number (Some NoTrailer) = 20
refusal_number (Some ShortBuffer) = 21

-- what comes of a call on a trail: why it is refused, if it is; the number of records held that is handed back; the
-- buffer
pub record Trail : Type 0 where
  pub refusal : Option Refusal
  pub held : ℕ
  pub buffer : List ℕ

abbrev pub trail : Option Refusal → (held : ℕ) → (buffer : List ℕ) → Trail
trail refusal held buffer = record { refusal = refusal; held = held; buffer = buffer }

-- no number of the trailer is above this
abbrev pub largest : ℕ
largest = 4294967295

-- how far record n is from the first one, and so the trailer where n records are held
abbrev pub distance : (records : ℕ) → ℕ
distance n = 128 * n

abbrev pub trailer_size : ℕ
trailer_size = 16

unfoldable pub start : (buffer : List ℕ) → Trail
start b =
    cond (ltb (length b) trailer_size) (trail (Some ShortBuffer) 0 b)
    (trail None 0 (sets b 0 (trailer_bytes 0 0 0)))

-- is the trailer that the number given points at whole in the buffer, with that distance and number, and version 1?
abbrev pub trailer_found : (buffer : List ℕ) (held : ℕ) → Bool
trailer_found b held =
    leb (distance held + trailer_size) (length b)
    && (eqb (word_at b (distance held)) (distance held)
    && eqb (word_at b (distance held + 4)) held
    && eqb (word_at b (distance held + 12)) version)

-- do one record more and the trailer fit, and the new distance its four bytes?
abbrev pub has_room : (bytes held : ℕ) → Bool
has_room bytes held = leb (distance (held + 1) + trailer_size) bytes && leb (distance (held + 1)) largest

abbrev pub turned_away : (buffer : List ℕ) (held : ℕ) → ℕ
turned_away b held = word_at b (distance held + 8)

-- one more, but at the ceiling
abbrev pub one_more : ℕ → ℕ
one_more n = min (n + 1) largest

-- the record goes where the trailer stood, and the trailer after it; the sequence number is the number held before
unfoldable pub add : (buffer : List ℕ) (held : ℕ) → Entry → Trail
add b held e =
    trail None (held + 1)
    (sets b (distance held)
    (record_bytes held e ++ trailer_bytes (distance (held + 1)) (held + 1) (turned_away b held)))

-- only the turned-away number rises
unfoldable pub turn_away : (buffer : List ℕ) (held : ℕ) → Trail
turn_away b held = trail None held (sets b (distance held + 8) (big_endian 4 (one_more (turned_away b held))))

-- why a start is refused, if it is
abbrev pub start_refusal : (buffer : List ℕ) → Option Refusal
start_refusal b = cond (ltb (length b) trailer_size) (Some ShortBuffer) None

-- why a writing call is refused, if it is
abbrev pub write_refusal : (buffer : List ℕ) (held : ℕ) → Option Refusal
write_refusal b held =
    cond (ltb (length b) trailer_size) (Some ShortBuffer) (cond (trailer_found b held) None (Some NoTrailer))

unfoldable pub write : (buffer : List ℕ) (held : ℕ) → Entry → Trail
write b held e =
    cond (ltb (length b) trailer_size) (trail (Some ShortBuffer) held b)
    (cond (not (trailer_found b held)) (trail (Some NoTrailer) held b)
    (cond (has_room (length b) held) (add b held e) (turn_away b held)))
