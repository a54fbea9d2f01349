-- The stack of frames, and the loop over it.
pub mod Stacking
pub mod Frames
pub mod TreeWays
pub mod Bounds
