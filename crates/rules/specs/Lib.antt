-- Document 01 as definitions, by its sections; then, in Theorems, what is proved of them.

-- "What is modelled"
pub mod Bits
pub mod Machine
pub mod Guest
-- "The numbered endings"
pub mod Endings
-- "References, in order", and programs that make them
pub mod References
pub mod Recording
pub mod Writes
pub mod Steps
pub mod Run
-- "Addresses and translation"
pub mod Translation
pub mod Access
pub mod ControlFields
-- "The five instructions", and document 02's
pub mod Call
pub mod Masks
pub mod SetSystemMask
pub mod StoreControl
pub mod StoreThenMask
pub mod SwapTables
pub mod SetStorageKey
pub mod InsertStorageKey
pub mod ResetReferenceBit
pub mod LoadRealAddress
-- the order of the tests, and the answer
pub mod Attempt
-- "What a reader may hold us to"
pub mod Calls
pub mod Theorems
