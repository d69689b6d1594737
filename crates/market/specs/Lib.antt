pub mod Fields
pub mod Records
pub mod Export
pub mod Claim
