pub mod SoFar
pub mod Fronts
pub mod Winning
pub mod TermsOfPrefixes
pub mod Implied
pub mod Asking
