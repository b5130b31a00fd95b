-- From what the code's answers say to the definition of an attempt.
pub mod Concluded
