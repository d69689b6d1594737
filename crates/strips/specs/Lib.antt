pub mod Strips
pub mod Claim
pub mod Inner
