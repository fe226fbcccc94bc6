pub mod Stratum
pub mod Opened
pub mod Masked
pub mod Stuck
pub mod Narrowing
pub mod Placing
