pub mod CoordinateLaws
pub mod SignedLaws
pub mod CastLaws
pub mod TurnedLaws
