pub mod Biased
pub mod Measure
pub mod Shown
pub mod Laws
