pub mod Players
pub mod Special
pub mod Kept
pub mod GameStep
pub mod Choices
