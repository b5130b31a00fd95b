-- The numbered endings. "Ending" is document 01's word for how an attempt ends: here its number, code or step, and
-- logical address, for each case of the enum.
use Rattle.std.specs.Prelude.{ℕ}
pub use Rattle.rules.specs.declared.endings.Exception.{Exception}
pub use Rattle.rules.specs.declared.endings.Exception.TheVariants.{
  PrivilegedOperation,
  Protection,
  Addressing,
  SegmentTranslation,
  PageTranslation,
  TranslationSpecification,
}
pub use Rattle.rules.specs.declared.endings.Ending.{Ending}
pub use Rattle.rules.specs.declared.endings.Ending.TheVariants.{
  Completed,
  Interruption,
  Expanded,
  FieldMissing,
  WrongMode,
  WrongStorageSize,
  WrongKeyCount,
  OddInstructionAddress,
  NotAssisted,
}

pub record Numbers : Type 0 where
  pub number : ℕ
  -- the interruption code, or the step; zero where there is none
  pub code : ℕ
  -- the logical address that codes 16 and 17 carry; zero elsewhere
  pub address : ℕ

-- the interruption code
abbrev pub code_of : Exception → ℕ
code_of PrivilegedOperation = 2
code_of Protection = 4
code_of Addressing = 5
code_of (SegmentTranslation _) = 16
code_of (PageTranslation _) = 17
code_of TranslationSpecification = 18

abbrev pub address_of : Exception → ℕ
address_of (SegmentTranslation a) = a
address_of (PageTranslation a) = a
address_of PrivilegedOperation = 0
address_of Protection = 0
address_of Addressing = 0
address_of TranslationSpecification = 0

abbrev pub numbers : Ending → Numbers
numbers Completed = record { number = 0; code = 0; address = 0 }
numbers (Interruption e) = record { number = 1; code = code_of e; address = address_of e }
numbers Expanded = record { number = 2; code = 0; address = 0 }
numbers (FieldMissing step) = record { number = 3; code = step; address = 0 }
numbers WrongMode = record { number = 9; code = 0; address = 0 }
numbers WrongStorageSize = record { number = 10; code = 0; address = 0 }
numbers WrongKeyCount = record { number = 11; code = 0; address = 0 }
numbers OddInstructionAddress = record { number = 12; code = 0; address = 0 }
numbers NotAssisted = record { number = 13; code = 0; address = 0 }

-- document 01's "refuse": interruption 2
abbrev pub refuse : Ending
refuse = Interruption PrivilegedOperation
