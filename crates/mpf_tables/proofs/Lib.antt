pub mod TableNames
