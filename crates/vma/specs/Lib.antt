-- What C programs get: the record as 21 words, the answer as one number, one attempt on these, and a trail.
pub mod Words
pub mod Packed
pub mod Inverse
pub mod Called
pub mod Recorded
