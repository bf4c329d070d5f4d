pub mod SegmentLaws
pub mod StandLaws
