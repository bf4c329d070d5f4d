pub mod CaseLaws
pub mod RowLaws
pub mod HalvesLaws
pub mod VerdictLaws
pub mod RegionLaws
pub mod OnceLaws
pub mod IndexLaws
pub mod NumberedLaws
