mod Names
mod Kept
mod Saying
mod Telling
mod Fitting
mod Unconnected
