pub mod Kind
-- for proofs only: each `impl SlotKind` cites these lemmas as its `steps`
pub mod Steps
pub mod Mask
