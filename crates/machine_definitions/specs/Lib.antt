pub mod Definitions
pub mod Shots
pub mod GameEvents
pub mod Players
pub mod Found
