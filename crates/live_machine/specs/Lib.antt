pub mod Talk
pub mod LineLinks
pub mod Answers
pub mod Live
pub mod LiveLaws
pub mod Wires
pub mod Work
-- only contracts of private functions cite these
pub mod Going
