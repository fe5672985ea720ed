pub mod Values
pub mod Below
pub mod Kinds
pub mod KeyRules
pub mod ValueOf
pub mod NamedValues
pub mod Reading
pub mod View
pub mod KindView
pub mod Gives
pub mod GivenEach
-- only contracts of private functions cite these
pub mod ValueAnswers
