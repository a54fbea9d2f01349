-- A survey without a reported fault is all that its starts lead to, and at each of its visits begins a term: a chain at
-- an overflow page, a tree at a page of a tree, a freelist at the first trunk.

-- what is below the starts, and below each visit
pub mod Followed
pub mod Sections
-- chains, and the payloads of cells
pub mod Chains
pub mod CellChains
-- trees: the pages, what is below them part by part, the bounds of keys, leaves, interior pages, and whole trees
pub mod TreePages
pub mod PageParts
pub mod Keys
pub mod Leaves
pub mod Interiors
pub mod Trees
-- the freelist
pub mod Trunks
