pub mod WellFormed
pub mod Classes
pub mod Laws
pub mod Planes
