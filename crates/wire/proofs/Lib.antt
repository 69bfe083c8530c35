pub mod Window
pub mod Unique
pub mod Lists
