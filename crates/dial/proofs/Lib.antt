pub mod PackedForm
pub mod ThereAndBack
