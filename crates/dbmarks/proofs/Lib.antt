pub mod Markings
pub mod Readings
pub mod Unfixed
pub mod EndMarking
pub mod LateRoots
pub mod FirstMarks
