pub mod FirstNames
