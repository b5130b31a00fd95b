-- Laws of the words and of the packed answers, and that packing and taking apart are inverse.
pub mod Words
pub mod Fields
pub mod Shifts
pub mod Inverse
pub mod Recorded
