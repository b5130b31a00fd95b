-- Laws of items, and of reading programs as the code's answers tell of them.
pub mod Theorems
pub mod Joined
pub mod Fetched
pub mod Laws
pub mod Stages
pub mod Words
pub mod Recorded
