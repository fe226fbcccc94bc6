pub mod Places
pub mod Counting
pub mod Weights
pub mod Runs
pub mod OneRun
pub mod Examples
