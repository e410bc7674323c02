pub mod ListLaws
pub mod SweepLaws
