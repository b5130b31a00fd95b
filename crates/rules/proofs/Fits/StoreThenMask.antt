-- STORE THEN AND and STORE THEN OR SYSTEM MASK: how they can end, and at most 11 references.
use Rattle.std.proofs.Common.{◌≡◌, ℕ, refl, ap, arith}
use Rattle.rules.specs.Machine.{◌⊕◌}
use Rattle.rules.specs.Guest.{Guest, effective, instruction_address}
use Rattle.rules.specs.Endings.{Completed, Expanded, FieldMissing, refuse}
use Rattle.rules.specs.Steps.{◌>>=◌, fetch_bytes, stop_if, ending_as}
use Rattle.rules.specs.Access.{second_halfword}
use Rattle.rules.specs.Call.{Call, complete_as}
use Rattle.rules.specs.StoreThenMask.{MaskChange, byte_operand, store_then}
use Rattle.rules.specs.Theorems.Answers.{table, listed, Possible}
use Rattle.rules.proofs.Within.{Within, Any, within_then, within_ending_as}
use Rattle.rules.proofs.Fits.{
  Stops,
  possible,
  stops,
  stops_expanded,
  store_test-within,
  logical_fetch-within,
  Fits,
  fits_then,
  Lists,
  exceptions,
}

-- what their operation codes can end with, alike
pub record MaskTable (op : ℕ) : Type 0 where
  pub accesses : Lists op 4 × Lists op 5 × Lists op 16 × Lists op 17 × Lists op 18
  pub completed : Possible op Completed
  pub refused : Stops op refuse
  pub handed : Stops op Expanded
  pub missing : Stops op (FieldMissing 2) × Stops op (FieldMissing 3)

byte_operand-within : (op : ℕ) → MaskTable op → (g : Guest) → Within (Stops op) Any (byte_operand g) 7
unfolding byte_operand
byte_operand-within op t g =
    within_then (Stops op) (λ v. Unit {0}) Any (λ r j k l h. tt) (ending_as (λ e. refuse) (second_halfword g)) _ 4 3 7
    (omega arith)
    (within_ending_as (λ e. Unit {0}) (Stops op) Any (λ e. refuse) (λ e u. t.refused) (second_halfword g) 4
    (logical_fetch-within (λ e. Unit {0}) g (instruction_address g ⊕ 2) 2
    (record { addressing = tt; protection = tt; specification = tt; segment = tt; page = tt })))
    (λ second u. store_test-within (Stops op) g (effective g second) (exceptions op _ (omega arith) t.accesses))

pub store_then-fits : (op : ℕ) → MaskTable op → (change : MaskChange) (c : Call) → Fits op c (store_then change c) 11
unfolding ◌>>=◌ fetch_bytes stop_if complete_as store_then
store_then-fits op t change c =
    let g = c.guest in (
      λ x. t.refused,
      λ x. (
        t.missing.0,
        λ vpsw. (
          t.missing.1,
          λ first. (
            λ x. stops_expanded op t.handed t.refused c,
            λ x.
                fits_then op c (byte_operand g) _ 7 2 9 (omega arith) (byte_operand-within op t g)
                (λ real. record {
                  possible = t.completed;
                  advanced = refl;
                  written = omega arith;
                }),
          ),
        ),
      ),
    )

-- for an operation code whose table is STNSM's
pub mask_table : {op : ℕ} → table op ≡ table 0xac → MaskTable op
mask_table {op} e =
    let same : (number code : ℕ) → listed (table op) number code ≡ listed (table 0xac) number code =
    λ number code. ap (λ t. listed t number code) e in
    record {
      accesses = (same 1 4, same 1 5, same 1 16, same 1 17, same 1 18);
      completed = possible (same 0 0) refl;
      refused = stops (same 1 2) refl refl;
      handed = stops (same 2 0) refl refl;
      missing = (stops (same 3 2) refl refl, stops (same 3 3) refl refl);
    }
