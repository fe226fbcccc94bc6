pub mod Below
pub mod Walked
pub mod Rounds
pub mod Learned
pub mod Judged
