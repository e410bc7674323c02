pub mod CellLaws
pub mod EdgeLaws
pub mod EvalLaws
pub mod FrameLaws
pub mod LateLaws
pub mod OneNet
pub mod PassLaws
pub mod SinkLaws
