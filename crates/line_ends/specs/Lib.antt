pub mod Completes
pub mod Carried
pub mod ReadOff
pub mod EachEnds
pub use Rattle.line_run.specs.Scripts
pub mod Causes
pub mod Plain
