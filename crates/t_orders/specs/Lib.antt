pub mod Implications
pub mod Laws
pub mod Rows
