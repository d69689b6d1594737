pub mod Passing
pub mod Holding
pub mod Telling
pub mod Answering
