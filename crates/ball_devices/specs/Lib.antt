pub mod Kind
pub mod Ledger
pub mod Bookings
pub mod Laws
