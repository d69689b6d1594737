pub mod Dial
pub mod Claim
