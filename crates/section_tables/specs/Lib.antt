pub mod Rows
pub mod Keys
pub mod Shapes
pub mod Tables
pub mod EntryOf
pub mod Named
pub mod Reading
pub mod View
pub mod TableView
pub mod Gives
-- only contracts of private functions cite these
pub mod TableAnswers
