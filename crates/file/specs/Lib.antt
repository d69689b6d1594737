pub mod Layout
pub mod Reader
pub mod Contents
pub mod Claim
pub mod Inner
