pub mod Stays
pub mod Inner
