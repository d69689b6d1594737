pub mod Reading
pub mod Splitting
pub mod Fields
pub mod Tables
pub mod Calls
pub mod Cutting
pub mod OnePass
