pub mod Accepted
pub mod FewRows
pub mod Growing
pub mod Lengths
pub mod Trimmed
pub mod Plain
