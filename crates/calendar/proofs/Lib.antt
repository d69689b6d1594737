pub mod Table
pub mod Closed
pub mod Starts
pub mod Bounds
pub mod Places
pub mod Dates
pub mod Sundays
