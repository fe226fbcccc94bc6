pub mod Spelling
pub mod Summary
pub mod Reports
pub mod Listings
pub mod Printable
pub mod Posed
