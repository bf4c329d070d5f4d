pub mod BitLaws
pub mod AnswerLaws
pub mod GaugingLaws
pub mod DecodeLaws
pub mod Sets
