pub mod Refused
pub mod Rig
pub mod Admission
pub mod Steps
pub mod Exchange
pub mod ShutDown
-- only contracts of private functions cite these, but for Lending: `step` says by it which lines it lends
pub mod Lending
pub mod RigState
