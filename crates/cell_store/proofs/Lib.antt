pub mod Apart
pub mod Bounds
pub mod Calling
pub mod Keeping
pub mod Opened
pub mod Replaying
pub mod RowLists
pub mod Turning
