-- The proofs of what specs/Theorems states.
pub mod Operations
pub mod Answers
pub mod Edges
pub mod MissingFields
pub mod Count
pub mod Isolation
pub mod Present
pub mod WrongPrograms
