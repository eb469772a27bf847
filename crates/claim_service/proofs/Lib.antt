pub mod Unrecorded
pub mod Handling
pub mod Appending
pub mod Replaying
pub mod Opened
pub mod Configured
