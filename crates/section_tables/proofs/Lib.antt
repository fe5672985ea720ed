pub mod WrittenRows
pub mod EntriesRead
pub mod RowNames
