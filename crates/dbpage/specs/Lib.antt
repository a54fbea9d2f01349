pub mod Beginning
pub mod ByteRuns
pub mod Five
pub mod Freeblocks
pub mod Head
pub mod Marking
pub mod Notes
pub mod Packed
