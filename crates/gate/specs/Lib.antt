pub mod Parts
pub mod Registers
pub mod Pins
pub mod Clocking
pub mod Fresh
pub mod Validity
pub mod Ahead
