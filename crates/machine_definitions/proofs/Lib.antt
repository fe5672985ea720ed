pub mod Finding
pub mod Called
pub mod States
