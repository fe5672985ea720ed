pub mod Words
pub mod LiveWords
