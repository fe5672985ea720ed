pub mod ByLine
pub mod RowFaults
pub mod Listed
pub mod Collected
pub mod AsWritten
pub mod None
pub mod Called
pub mod Sound
pub mod Numbers
pub mod Leads
pub mod Routed
pub mod Apart
pub mod Plain
mod Short
mod NoRules
mod Ungrouped
