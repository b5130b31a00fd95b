-- Laws of the sizes of pages and segments.
pub mod Sizes
-- what walks come to, beside their reading programs
pub mod Paths
