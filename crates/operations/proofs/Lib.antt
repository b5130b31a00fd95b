-- Laws of tests and tables.
pub mod Junctions
pub mod Table
