pub mod Due
pub mod Kept
pub mod Agent
pub mod Faults
