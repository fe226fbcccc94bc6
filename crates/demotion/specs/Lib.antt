pub mod Outcomes
pub mod Placed
