pub mod Board
pub mod ShutDown
pub mod Driver
-- for proofs only: what the lines of a cascade have in common
pub mod Agrees
