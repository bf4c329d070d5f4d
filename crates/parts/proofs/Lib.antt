pub mod PartLaws
pub mod RunLaws
