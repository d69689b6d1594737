-- What the contracts of inner functions say. No definition of 02's rules stands here.
pub mod Refusing
pub mod Sending
