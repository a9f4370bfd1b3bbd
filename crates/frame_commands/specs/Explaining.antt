pub mod Words
pub mod Digits
pub mod OfferLine
pub mod Ends
pub mod Completes
pub mod Promise
