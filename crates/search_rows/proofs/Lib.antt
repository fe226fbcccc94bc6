pub mod Seated
pub mod Staying
