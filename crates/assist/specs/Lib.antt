-- What an attempt promises.
pub mod Attempted
pub mod Changes
