-- What the answers of these functions say, in the terms of the rules.
pub mod Walks
pub mod Passes
