pub mod ClassLaws
pub mod FirstLaws
pub mod GroupLaws
pub mod LayoutLaws
pub mod Ranks
