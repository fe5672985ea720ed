pub mod Status
pub mod Reply
pub mod CheckOutput
pub mod TextRead
pub mod CheckVerified
pub mod Joined
pub mod LogText
pub mod RunOfLog
pub mod RunGiven
pub mod SamePlay
pub mod TraceText
pub mod Ends
pub mod FixedPlay
pub mod Played
pub mod LogPlayers
-- only contracts of private functions cite these
pub mod ReplyView
pub mod LogView
