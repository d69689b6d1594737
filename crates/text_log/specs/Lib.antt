pub mod Numbers
pub mod Words
pub mod Line
pub mod Log
pub mod Inner
