pub mod Examples
pub mod Optima
pub mod OneLanguage
pub mod ReadOff
pub mod Tables
pub mod Listed
pub mod Told
