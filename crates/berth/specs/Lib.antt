pub mod Generator
pub mod Steps
pub mod Run
pub mod Lossless
pub mod Inner
