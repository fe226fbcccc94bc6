mod BitPlanes
pub mod Acceptable
pub mod Inputs
pub mod Found
pub mod Joined
pub mod Masked
pub mod Keys
pub mod Pairs
