pub mod Wire
pub mod Kind
