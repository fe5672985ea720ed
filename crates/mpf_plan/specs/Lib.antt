pub mod Uses
pub mod ByNumber
pub mod PlanOf
pub mod ByName
pub mod OfConfig
-- only contracts of private functions cite these
pub mod Lacking
pub mod Drafting
-- for proofs only: names among uses
pub mod Named
