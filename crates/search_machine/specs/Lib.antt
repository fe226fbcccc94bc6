pub mod Machine
pub mod Seen
pub mod Kept
pub mod MachineView
pub mod Held
pub mod Standing
pub mod Findings
