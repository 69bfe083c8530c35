pub mod Leaves
pub mod Reached
pub mod Settled
pub mod Unique
