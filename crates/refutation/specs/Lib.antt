pub mod Laws
pub mod Prefixes
pub mod Terms
pub mod Typologies
pub mod Winners
pub mod Asked
pub mod Findings
pub mod Places
