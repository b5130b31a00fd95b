-- What is proved of the definitions. Each file states it, in words and as a type; the proof is the file of the same
-- name in proofs/Theorems.
pub mod Samples
pub mod ReferenceBits
pub mod Answers
pub mod Operations
pub mod Edges
pub mod KeyEdges
pub mod LoadEdges
pub mod MissingFields
pub mod Count
pub mod Isolation
pub mod Present
pub mod WrongPrograms
