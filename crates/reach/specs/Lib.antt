pub mod Reach
pub mod Needed
