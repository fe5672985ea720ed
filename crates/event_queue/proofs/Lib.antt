pub mod Sort
mod Put
pub mod PlanOrder
pub mod NoneRunning
pub mod Least
mod InOrder
mod FirstOut
mod OfEvent
mod Joined
mod Handling
mod Owned
mod Walk
mod Groups
mod Rests
