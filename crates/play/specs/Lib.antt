pub mod Playing
pub mod Inner
pub mod Claim
