-- The way to a page.
pub mod Way
