pub mod FirstPass
pub mod Sums
pub mod Unique
