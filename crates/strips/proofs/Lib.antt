pub mod Numbers
pub mod Places
pub mod Lengths
pub mod Days
pub mod Passes
pub mod Answers
pub mod RoundTrip
