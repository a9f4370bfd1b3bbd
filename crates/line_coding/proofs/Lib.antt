mod Names
pub mod Fours
pub mod Standing
pub mod Readings
pub mod Quads
pub mod Late
pub mod Middle
pub mod Taking
pub mod Readers
pub mod TurnedSamples
pub mod TurnedLabels
pub mod TurnedLines
pub mod TurnedSequences
