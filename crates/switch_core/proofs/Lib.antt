pub mod Levels
pub mod NextDue
pub mod DueMoments
pub mod Following
pub mod Lists
pub mod Waiting
pub mod Reading
