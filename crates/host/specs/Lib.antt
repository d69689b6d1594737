pub mod Codes
pub mod Market
