pub mod GroupLaws
pub mod KeyLaws
