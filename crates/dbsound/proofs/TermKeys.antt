-- The keys of a table tree are in order, and an index tree has none: lists of keys, the keys of a page and of what is below
-- one of its cells, and those of a tree.
pub mod KeyOrder
pub mod CellKeys
pub mod TreeKeys
