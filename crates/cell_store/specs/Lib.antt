pub mod Rows
pub mod Store
pub mod Calls
pub mod Opening
pub mod Turns
