-- The trail of request R-1: a record of each call, in a buffer that the caller lends, and a trailer that says how many
-- records are held and how many were turned away.
pub mod Words
pub mod Records
pub mod Trails
pub mod Answers
pub mod Runs
pub mod Theorems
