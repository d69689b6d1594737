pub mod Stepping
pub mod Walking
pub mod Ending
pub mod TwoLogs
