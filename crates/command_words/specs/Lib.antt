pub mod Words
pub mod CommandLines
