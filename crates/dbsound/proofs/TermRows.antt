-- The rows of the schema that are read along the visits of a tree are those that its payloads spell.
pub mod Held
pub mod Spelled
