mod Parts
pub mod LeaseBits
pub mod Equal
pub mod Ordered
pub mod Numbers
pub mod KeyRead
pub mod KeyText
