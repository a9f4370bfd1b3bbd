mod Names
pub mod Standing
pub mod Handing
pub mod Offering
pub mod OneEnd
