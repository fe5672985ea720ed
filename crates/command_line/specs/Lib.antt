pub mod CommandLine
pub mod LiveCommand
pub mod NotAsked
