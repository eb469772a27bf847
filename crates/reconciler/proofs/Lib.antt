pub mod Trees
pub mod Dues
pub mod Keeping
pub mod Moves
pub mod Hearing
pub mod Asking
