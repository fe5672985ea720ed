pub mod Devices
pub mod GameEvents
pub mod PlanView
pub mod Owned
pub mod Limits
pub mod Valid
pub mod BallRows
pub mod Due
-- what the fields of a plan hold: only the maker of plans needs these
pub mod NamesKept
pub mod PlanFields
