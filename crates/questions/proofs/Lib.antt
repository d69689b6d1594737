pub mod Reporting
pub mod Explaining
pub mod Logging
pub mod Dating
