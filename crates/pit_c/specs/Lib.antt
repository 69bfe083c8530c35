pub mod Layout
pub mod Calls
pub mod Playing
pub mod RoundTrip
pub mod Levels
