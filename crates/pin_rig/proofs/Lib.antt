pub mod Judging
pub mod Counting
mod Cascading
pub mod Acting
pub mod Running
pub mod Exchanging
