pub mod Results
pub mod View
pub mod Bytes
pub mod Plain
pub mod Lines
pub mod Scanning
pub mod Numbers
pub mod Hashing
