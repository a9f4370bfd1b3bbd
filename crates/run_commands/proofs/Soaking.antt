pub mod DrawnWords
pub mod Lines
pub mod Spelling
pub mod Filling
pub mod Turning
pub mod Headline
