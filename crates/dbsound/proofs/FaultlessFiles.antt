-- A file without a reported fault is sound: the parts of a sound file, out of its survey.

-- the rows of the schema, and that its tree's payloads spell them
pub mod SchemaRows
pub mod Spelled
-- a tree for each row with a root, and what the header says of all of them
pub mod Forest
pub mod Sums
-- the use of each page, the pointer map, and the order of roots
pub mod Pages
pub mod RootOrder
-- all parts together
pub mod Sound
