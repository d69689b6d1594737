pub mod Last
pub mod AcceptedCall
pub mod WholeLists
pub mod Conflict
