-- LOAD REAL ADDRESS: how it can end, and at most 14 references.
use Rattle.std.proofs.Common.{ℕ, ◌+◌, List, set, refl, ap, ◌∙◌, arith, set-set}
use Rattle.operations.specs.Operations.{length_of}
use Rattle.rules.specs.Bits.{word}
use Rattle.rules.specs.Machine.{◌⊕◌}
use Rattle.rules.specs.Guest.{Guest, instruction_address, indexed, advance, with_address, with_code}
use Rattle.rules.specs.Endings.{Ending, FieldMissing, refuse}
use Rattle.rules.specs.Steps.{Steps}
use Rattle.rules.specs.Translation.{
  Format,
  format_for,
  SegmentTableLength,
  SegmentInvalid,
  SegmentFormat,
  PageTableLength,
  PageInvalid,
  PageFormat,
  Walk,
  found,
  fault,
  onward,
  segment_verdict,
  segment_walk,
  page_verdict,
  page_walk,
  table_walk,
}
use Rattle.rules.specs.Access.{second_halfword}
use Rattle.rules.specs.Call.{Call, operation_byte, r1, x2, Completion}
use Rattle.rules.specs.LoadRealAddress.{
  through_real,
  virtual_walk,
  loaded,
  loaded_by,
  load_by,
  load_through,
  load_real_address,
}
use Rattle.rules.proofs.Computing.{fetching, loading}
use Rattle.rules.proofs.Within.{Within, Any, within_then}
use Rattle.rules.proofs.Fits.{
  Advanced,
  completes,
  Stops,
  stops,
  Exceptions,
  logical_fetch-within,
  Fits,
  fits_then,
  exceptions,
}
use Rattle.rules.proofs.Fits.ConditionCode.{code_forgotten}

-- ---- the record: the condition code and R1 are replaced, and nothing else

advanced : (c : Call) (code address : ℕ) → Advanced 0xb1 c (with_address (with_code c.guest code) (r1 c) address)
advanced c code address =
    let g = c.guest in
    let n = length_of (operation_byte c) in
    let with : ℕ → List ℕ → Guest = λ p l. record { psw = p; general = l; cr0 = g.cr0; cr1 = g.cr1; cr6 = g.cr6 } in
    ap (λ p. with p (set (set g.general (r1 c) (word 8 31 address)) (r1 c) 0)) (code_forgotten n g.psw code)
    ∙ ap (with (with_code (advance g n) 0).psw) (set-set g.general (r1 c) (word 8 31 address) 0)

-- ---- tables, by how their entries are read

module _ (E : Ending → Type 0) (f : Format) (a : ℕ) where
  segment_walk-within : (read : ℕ → Steps ℕ) (n : ℕ) → ((at : ℕ) → Within E Any (read at) n) → (table : ℕ)
      → Within E Any (segment_walk read f table a) n
  unfolding segment_walk segment_verdict
  segment_walk-within read n h table = (
    λ t. tt,
    λ t. within_then E (λ entry. Unit {0}) Any (λ w j k l x. tt) (read _) _ n 0 n (omega arith) (h _)
        (λ entry x. (λ t. tt, λ t. (λ t. tt, λ t. (λ t. tt, λ t. tt)))),
  )

  page_walk-within : (read : ℕ → Steps ℕ) (n : ℕ) → ((at : ℕ) → Within E Any (read at) n) → (segment : ℕ)
      → Within E Any (page_walk read f segment a) n
  unfolding page_walk page_verdict
  page_walk-within read n h segment =
      within_then E (λ entry. Unit {0}) Any (λ w j k l x. tt) (read _) _ n 0 n (omega arith) (h _)
      (λ entry x. (λ t. tt, λ t. (λ t. tt, λ t. tt)))

  table_walk-within : (read_segment read_page : ℕ → Steps ℕ) (i j : ℕ) → ((at : ℕ) → Within E Any (read_segment at) i)
      → ((at : ℕ) → Within E Any (read_page at) j) → (table : ℕ)
      → Within E Any (table_walk read_segment read_page f table a) (i + j)
  unfolding table_walk
  table_walk-within read_segment read_page i j h k table =
      within_then E (λ w. Unit {0}) Any (λ w j k l x. tt) (segment_walk read_segment f table a) _ i j (i + j)
      (omega arith) (segment_walk-within read_segment i h table) (λ w x. next w)
    where
      next : (w : Walk) → Within E Any (onward (λ segment. page_walk read_page f segment a) w) j
      next (found segment) = page_walk-within read_page j k segment
      next (fault x at) = tt

-- ---- the instruction

refused : Stops 0xb1 refuse
refused = stops refl refl refl

through_real-within : (rseg i j n a : ℕ) → Stops 0xb1 (FieldMissing i) → Stops 0xb1 (FieldMissing j)
    → Within (Stops 0xb1) Any (through_real rseg i j n a) 3
unfolding loading
through_real-within rseg i j n a h k = (
  λ t. refused,
  λ t. (
    h,
    λ segment. (
      λ t. refused,
      λ t. (
        λ t. refused,
        λ t. (
          λ t. refused,
          λ t. (k, λ page. (λ t. refused, λ t. (λ t. refused, λ t. (refused, λ v. tt)))),
        ),
      ),
    ),
  ),
)

loaded_fits : (c : Call) (code address : ℕ) → Fits 0xb1 c (loaded code address) 0
unfolding fetching
loaded_fits c code address = completes refl (advanced c code address) (omega arith)

loaded_by-fits : (c : Call) (w : Walk) → Fits 0xb1 c (loaded_by w) 0
loaded_by-fits c (fault SegmentTableLength entry) = loaded_fits c _ entry
loaded_by-fits c (fault SegmentInvalid entry) = loaded_fits c _ entry
loaded_by-fits c (fault SegmentFormat entry) = refused
loaded_by-fits c (fault PageTableLength entry) = loaded_fits c _ entry
loaded_by-fits c (fault PageInvalid entry) = loaded_fits c _ entry
loaded_by-fits c (fault PageFormat entry) = refused
loaded_by-fits c (found real) = loaded_fits c _ real

virtual_walk-within : (rseg : ℕ) (f : Format) (table a : ℕ) → Within (Stops 0xb1) Any (virtual_walk rseg f table a) 6
unfolding virtual_walk
virtual_walk-within rseg f table a =
    table_walk-within (Stops 0xb1) _ a (through_real rseg 5 6 4) (through_real rseg 7 8 2) 3 3
    (λ at. through_real-within rseg 5 6 4 at (stops refl refl refl) (stops refl refl refl))
    (λ at. through_real-within rseg 7 8 2 at (stops refl refl refl) (stops refl refl refl)) table

load_by-fits : (c : Call) (rseg : ℕ) (f : Format) (table a : ℕ) → Fits 0xb1 c (load_by rseg f table a) 6
unfolding load_by
load_by-fits c rseg f table a =
    fits_then 0xb1 c (virtual_walk rseg f table a) loaded_by 6 0 6 (omega arith) (virtual_walk-within rseg f table a)
    (loaded_by-fits c)

-- from step 6
abbrev load_at : Call → (rseg cr0 cr1 second : ℕ) → Steps Completion
load_at c rseg cr0 cr1 second = load_by rseg (format_for (word 8 12 cr0)) cr1 (indexed c.guest (x2 c) second)

load_through-fits : (c : Call) (rseg ecblok : ℕ) → Fits 0xb1 c (load_through c rseg ecblok) 12
unfolding fetching load_through
load_through-fits c rseg ecblok =
    let g = c.guest in
    let x : Exceptions (Stops 0xb1) (instruction_address g ⊕ 2) =
    exceptions 0xb1 _ (omega arith) (refl, refl, refl, refl, refl) in (
      stops refl refl refl,
      λ cr0. (
        stops refl refl refl,
        λ cr1. (
          λ t. refused,
          λ t. fits_then 0xb1 c (second_halfword g) (load_at c rseg cr0 cr1) 4 6 10 (omega arith)
              (logical_fetch-within (Stops 0xb1) g _ 2 x)
              (λ second. load_by-fits c rseg (format_for (word 8 12 cr0)) cr1 (indexed g (x2 c) second)),
        ),
      ),
    )

pub load_real_address-fits : (c : Call) → Fits 0xb1 c (load_real_address c) 14
unfolding fetching load_real_address
load_real_address-fits c = (
  λ t. refused,
  λ t. (stops refl refl refl, λ rseg. (stops refl refl refl, λ creg. load_through-fits c rseg _)),
)
