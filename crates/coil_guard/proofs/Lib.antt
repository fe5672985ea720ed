mod Lasting
mod OneCoil
pub mod Lowest
mod Told
mod BoardLaws
pub mod Following
pub mod Lawful
mod Slower
mod Releasing
