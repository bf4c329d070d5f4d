pub mod PlaceLaws
pub mod CornerLaws
pub mod RefusalLaws
