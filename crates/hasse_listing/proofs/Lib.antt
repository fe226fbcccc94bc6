pub mod Places
pub mod Pairs
pub mod HeldBack
pub mod Listed
