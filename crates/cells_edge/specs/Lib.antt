pub mod Carrying
pub mod Edge
pub mod Memory
pub mod Places
pub mod Streams
pub mod Wire
