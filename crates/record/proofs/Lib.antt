pub mod WayLaws
pub mod InlineLaws
pub mod HalfLaws
pub mod LeadLaws
pub mod OrderLaws
pub mod CaseLaws
