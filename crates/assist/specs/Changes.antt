-- Which change of the mask an operation code names: STORE THEN AND SYSTEM MASK, STORE THEN OR SYSTEM MASK, or none.
use Rattle.std.specs.Prelude.{ℕ, cond, ◌==◌, Option, Some, None}
use Rattle.rules.specs.declared.mask_change.MaskChange.{MaskChange}
use Rattle.rules.specs.declared.mask_change.MaskChange.TheVariants.{And, Or}

abbrev pub change_by : (operation : ℕ) → Option MaskChange
change_by operation = cond (operation == 0xac) (Some And) (cond (operation == 0xad) (Some Or) None)
