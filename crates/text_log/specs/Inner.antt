-- What the contracts of inner functions say.
pub mod Parsing
pub mod Lines
pub mod Deliveries
