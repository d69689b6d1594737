pub mod Explain
pub mod Inner
pub mod Naming
