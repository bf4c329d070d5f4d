pub mod AreaLaws
pub mod CastLaws
