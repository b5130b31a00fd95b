-- The attempt: how it can end, and at most so many references as the longest list of its instruction.
use Rattle.std.proofs.Common.{◌≡◌, ℕ, Bool, true, false, eqb, length, sym, refl, ap, ◌∙◌, subst, true≢false, eqb-true}
use mathlib.Core.Bool.{or-false}
use borrow.Author.Tests.{not-true, not-false}
use Rattle.operations.proofs.Junctions.{neither_true}
use Rattle.rules.specs.Machine.{Machine}
use Rattle.rules.specs.Endings.{WrongMode, NotAssisted}
use Rattle.rules.specs.Steps.{Steps, ◌>>=◌, stop_if}
use Rattle.rules.specs.Call.{Call, operation, Completion}
use Rattle.rules.specs.SetSystemMask.{set_system_mask}
use Rattle.rules.specs.StoreControl.{store_control}
use Rattle.rules.specs.StoreThenMask.{And, Or, store_then}
use Rattle.rules.specs.SetStorageKey.{set_storage_key}
use Rattle.rules.specs.InsertStorageKey.{insert_storage_key}
use Rattle.rules.specs.ResetReferenceBit.{reset_reference_bit}
use Rattle.rules.specs.LoadRealAddress.{load_real_address}
use Rattle.rules.specs.Attempt.{admitted, instruction, program, reading}
use Rattle.rules.specs.Theorems.Answers.{table, listed}
use Rattle.rules.specs.Theorems.Operations.{assisted_code}
use Rattle.rules.specs.Theorems.Count.{longest_list}
use Rattle.rules.proofs.Theorems.Operations.{each, table_as_by_code}
use Rattle.rules.proofs.Within.{Came, run_came}
use Rattle.rules.proofs.Fits.{Stops, stops, Completes, Fits}
use Rattle.rules.proofs.Fits.SetSystemMask.{set_system_mask-fits}
use Rattle.rules.proofs.Fits.StoreControl.{store_control-fits}
use Rattle.rules.proofs.Fits.StoreThenMask.{store_then-fits, mask_table}
use Rattle.rules.proofs.Fits.SetStorageKey.{set_storage_key-fits}
use Rattle.rules.proofs.Fits.InsertStorageKey.{insert_storage_key-fits}
use Rattle.rules.proofs.Fits.ResetReferenceBit.{reset_reference_bit-fits}
use Rattle.rules.proofs.Fits.LoadRealAddress.{load_real_address-fits}

-- ---- the eight

-- any other has the endings that 0 has
as_other : (op : ℕ) → assisted_code op ≡ false → table op ≡ table 0
as_other op h =
    let i = neither_true _ (eqb op 0xb6) h in
    let g = neither_true _ (eqb op 0xb213) i.0 in
    let f = neither_true _ (eqb op 0xb1) g.0 in
    let e = neither_true _ (eqb op 0xad) f.0 in
    let d = neither_true _ (eqb op 0xac) e.0 in
    let c = neither_true _ (eqb op 0x80) d.0 in
    let b = neither_true (eqb op 0x08) (eqb op 0x09) c.0 in
    simp (b.0, b.1, c.1, d.1, e.1, f.1, g.1, i.1)

none_of_eight : (op : ℕ) → assisted_code op ≡ false → Stops op NotAssisted
none_of_eight op h = stops (ap (λ t. listed t 13 0) (as_other op h)) refl refl

-- and does not complete
pub completed_assisted : (op : ℕ) → listed (table op) 0 0 ≡ true → assisted_code op ≡ true
completed_assisted op h = go (assisted_code op) refl
  where
    go : (b : Bool) → assisted_code op ≡ b → b ≡ true
    go true e = refl
    go false e = absurd (true≢false (sym h ∙ ap (λ t. listed t 0 0) (as_other op e)))

wrong_mode_lem : (op : ℕ) → assisted_code op ≡ true → Stops op WrongMode
wrong_mode_lem =
    each (λ op. Stops op WrongMode) (stops refl refl refl) (stops refl refl refl) (stops refl refl refl)
    (stops refl refl refl) (stops refl refl refl) (stops refl refl refl) (stops refl refl refl) (stops refl refl refl)

-- ---- the instruction at an operation code that is decided

module _ (c : Call) (h : assisted_code (operation c) ≡ true) where
  at : (op : ℕ) (p : Steps Completion) → Fits op c p (longest_list op) → eqb (operation c) op ≡ true
      → Fits (operation c) c p (longest_list (operation c))
  at op p f e = subst (λ o. Fits o c p (longest_list o)) (sym (eqb-true (operation c) op e)) f

  instruction_fits : Fits (operation c) c (instruction c) (longest_list (operation c))
  unfolding instruction
  instruction_fits = (
    at 0x80 (set_system_mask c) (set_system_mask-fits c),
    λ e1. (
      at 0xb6 (store_control c) (store_control-fits c),
      λ e2. (
        at 0xac (store_then And c) (store_then-fits 0xac (mask_table refl) And c),
        λ e3. (
          at 0xad (store_then Or c) (store_then-fits 0xad (mask_table refl) Or c),
          λ e4. (
            at 0x08 (set_storage_key c) (set_storage_key-fits c),
            λ e5. (
              at 0x09 (insert_storage_key c) (insert_storage_key-fits c),
              λ e6. (
                at 0xb1 (load_real_address c) (load_real_address-fits c),
                λ e7.
                    at 0xb213 (reset_reference_bit c) (reset_reference_bit-fits c)
                    (simp (e1, e2, e3, e4, e5, e6, e7, or-false) at h),
              ),
            ),
          ),
        ),
      ),
    ),
  )

-- whatever the sizes
pub attempt_fits : (bytes keys : ℕ) (c : Call) → Fits (operation c) c (program bytes keys c) (longest_list
    (operation c))
unfolding ◌>>=◌ stop_if admitted
attempt_fits bytes keys c =
    let code = sym (table_as_by_code c).assisted in (
      λ t. stops refl refl refl,
      λ t. (
        λ t. stops refl refl refl,
        λ t. (
          λ t. stops refl refl refl,
          λ t. (
            λ t. none_of_eight (operation c) (code ∙ not-true _ t),
            λ t. (
              λ w. wrong_mode_lem (operation c) (code ∙ not-false _ t),
              λ w. instruction_fits c (code ∙ not-false _ t),
            ),
          ),
        ),
      ),
    )

pub reading_came : (m : Machine) (c : Call)
    → let op = operation c in
    Came (Stops op) (Completes op c) (longest_list op) (length (reading m c).references) (reading m c).outcome
reading_came m c =
    let op = operation c in
    let bytes = length m.storage in
    let keys = length m.keys in
    run_came (Stops op) (Completes op c) (program bytes keys c) (longest_list op) m (attempt_fits bytes keys c)
