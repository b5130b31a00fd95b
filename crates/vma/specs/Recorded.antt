-- A trail, as a C program gets it: what it hands over of a call to be written down, and what comes back as one number.
use Rattle.std.specs.Prelude.{ℕ, ◌+◌, ◌*◌, ◌^◌, ◌≡◌, Bool, List, length}
use Rattle.rules.specs.Bits.{bits}
use Rattle.rules.specs.Guest.{instruction_address}
use Rattle.rules.specs.Endings.{numbers}
use Rattle.trail.specs.declared.entry.Entry.{Entry}
use Rattle.trail.specs.Records.{entry_of}
use Rattle.trail.specs.Trails.{Trail, refusal_number, write}
use Rattle.vma.specs.Words.{guest_of, words_of}
use Rattle.vma.specs.Packed.{packed, numbers_in, count_in}
use Rattle.vma.specs.Called.{called}

-- from the record before the call and the one handed back, as words, and the answer as `vma_attempt` packed it
abbrev pub entry_from : (number : ℕ) (before after : List ℕ) (first : ℕ) → Bool → (answer : ℕ) → Entry
entry_from number before after first installed answer = record {
  number = number;
  call = record { guest = guest_of before; first = first; installed = installed };
  ending = (numbers_in answer).number;
  code = (numbers_in answer).code;
  count = count_in answer;
  next = instruction_address (guest_of after);
  translation = (numbers_in answer).address;
}

-- a call written down: what comes back, and the buffer
abbrev pub written_down : (buffer : List ℕ) (held number : ℕ) (before after : List ℕ) (first : ℕ) → Bool → (answer : ℕ)
    → Trail
written_down buffer held number before after first installed answer =
    write buffer held (entry_from number before after first installed answer)

-- the refusal's number in bits 0-7, the number of records held in bits 32-63. Bit 0 is leftmost
abbrev pub packed_trail : Trail → ℕ
packed_trail t = refusal_number t.refusal * 2 ^ 56 + t.held

abbrev pub refusal_in : ℕ → ℕ
refusal_in r = bits 64 0 7 r

abbrev pub held_in : ℕ → ℕ
held_in r = bits 64 32 63 r

-- What is written down of a call of `vma_attempt` is what the rules say of that call: nothing is lost where the record
-- and the answer are handed over as words and as one number.
abbrev pub CallRecorded : Type 0
CallRecorded = (storage keys words : List ℕ) (first : ℕ) (installed : Bool) (number : ℕ)
    → let r = called storage keys words first installed in
    entry_from number words (words_of r.answer.guest) first installed
    (packed (numbers r.answer.ending) (length r.references))
    ≡ entry_of number (record { guest = guest_of words; first = first; installed = installed }) r.answer
