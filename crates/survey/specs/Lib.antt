pub mod Check
pub mod Needed
pub mod Watching
pub mod Survey
pub mod Following
