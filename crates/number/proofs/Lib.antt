pub mod NumberLaws
pub mod GroupLaws
pub mod SignedLaws
pub mod SizeLaws
