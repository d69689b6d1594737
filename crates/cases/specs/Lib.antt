pub mod Cases
pub mod Whole
pub mod Nem12
