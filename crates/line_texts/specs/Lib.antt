pub mod FrameText
pub mod LineText
