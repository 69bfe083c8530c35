pub mod Play
pub mod Run
pub mod Judging
