pub mod Publishing
pub mod Claim
pub mod Inner
