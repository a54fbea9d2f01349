-- The cells of a leaf.
pub mod LeafCells
pub mod LeafErrands
pub mod RisingKeys
