pub mod Examples
pub mod Commands
pub mod Cuts
pub mod Named
pub mod Numerals
