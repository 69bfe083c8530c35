pub mod Digit
pub mod Lines
pub mod Streams
