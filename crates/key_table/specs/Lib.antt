pub mod Texts
pub mod Joined
pub mod Picked
pub mod Parts
