pub mod Deeds
pub mod Gathered
pub mod Indexed
pub mod Sieved
pub mod Places
pub mod Made
pub mod Admitted
