mod Groups
pub mod Examples
pub mod FirstLine
pub mod FirstCell
pub mod PairedQuotes
pub mod Trimmed
pub mod TextOf
pub mod Digits
