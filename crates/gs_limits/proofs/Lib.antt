pub mod LeakLaws
pub mod KindLaws
pub mod OneNet
pub mod OutcomeLaws
