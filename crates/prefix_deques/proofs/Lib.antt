pub mod Rules
pub mod Seated
pub mod Closing
pub mod Dealt
pub mod Making
pub mod Ending
