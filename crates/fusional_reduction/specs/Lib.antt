pub mod Nodes
pub mod Bases
pub mod Laws
pub mod Chosen
pub mod Visits
