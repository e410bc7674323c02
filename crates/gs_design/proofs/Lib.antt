pub mod AlternativeLaws
pub mod Columns
pub mod HotLaws
pub mod SizeLaws
