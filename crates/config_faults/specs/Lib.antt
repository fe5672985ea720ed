pub mod FaultNames
pub mod Faults
