pub mod Ends
pub mod Limits
