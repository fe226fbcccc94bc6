pub mod LinesInTurn
pub mod WordsInTurn
pub mod MorePieces
pub mod Ranked
pub mod Examples
