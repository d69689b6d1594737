pub mod Logic
pub mod Sums
pub mod Lists
pub mod Refusals
