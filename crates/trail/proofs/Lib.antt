-- Laws of words in a buffer, of records and of runs, and with them the theorems.
pub mod Puts
pub mod RecordBytes
pub mod Cases
pub mod Standing
pub mod Kept
pub mod Theorems
pub mod AnyBuffer
