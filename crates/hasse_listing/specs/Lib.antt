pub mod Covers
pub mod Masks
