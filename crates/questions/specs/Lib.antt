pub mod Simulating
pub mod Follow
pub mod Logs
pub mod Naming
