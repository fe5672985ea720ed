pub mod Sending
pub mod Serving
pub mod PuttingOff
