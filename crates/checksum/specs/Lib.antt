-- The checksum, as definitions.
pub mod Register
