pub mod NearestLaws
pub mod TopsLaws
pub mod PassLaws
pub mod ByMarkLaws
pub mod RefusalLaws
pub mod Sets
