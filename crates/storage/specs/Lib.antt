-- What the answers of these functions say, in the terms of the rules.
pub mod Items
pub mod Recording
pub mod Answers
pub mod Theorems
