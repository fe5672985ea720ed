pub mod Chosen
pub mod Draining
pub mod StayFew
pub mod Slots
pub mod DrainEvent
