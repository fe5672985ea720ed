pub mod Seats
pub mod Members
pub mod Rows
pub mod View
pub mod Gained
