pub mod Slots
pub mod StepsKeep
pub mod Machines
pub mod Finished
pub mod Leading
pub mod Standing
pub mod OneAfter
