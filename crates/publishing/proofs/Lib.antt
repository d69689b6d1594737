pub mod Totals
pub mod Buffers
pub mod Records
pub mod Inside
pub mod Publishing
pub mod Booked
pub mod Files
pub mod EveryFile
