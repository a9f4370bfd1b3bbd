mod Names
pub mod Differing
pub mod Saying
pub mod Reading
pub mod Answering
pub mod Jobs
pub mod Creating
pub mod HeaderRead
pub mod Behind
pub mod Headers
pub mod PieceLines
pub mod Hearing
