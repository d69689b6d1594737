-- What the contracts of inner functions say. No definition of 01's rules stands here.
pub mod Writing
