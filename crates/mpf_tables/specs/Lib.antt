pub mod SectionTables
pub mod TableRules
