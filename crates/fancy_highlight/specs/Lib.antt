pub mod Ends
pub mod Frames
pub mod LeftOut
pub mod Scopes
pub mod Tokens
pub mod Writers
