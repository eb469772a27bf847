pub mod Faults
pub mod Bounds
pub mod Reading
pub mod Giving
