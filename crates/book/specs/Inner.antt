-- What the contracts of inner functions say.
pub mod Lent
pub mod Numbers
