pub mod Heard
pub mod Peer
pub mod Single
pub mod Turn
pub mod Mid
pub mod Laws
