-- Laws of the loops.
pub mod Turns
pub mod Words
