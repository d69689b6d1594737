-- What the contracts of inner functions say. No definition of 01's rules stands here.
pub mod Lent
pub mod Ways
pub mod Walks
pub mod Summaries
pub mod Stretches
pub mod Passes
