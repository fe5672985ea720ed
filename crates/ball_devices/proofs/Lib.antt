pub mod Ledgers
pub mod Booked
pub mod FirstDue
pub mod Calm
