pub mod EndMarks
pub mod Marking
pub mod Reads
