pub mod State
pub mod Node
pub mod Opening
