-- Overflow chains.
pub mod Overflows
pub mod ChainTurns
pub mod Feedings
pub mod Heads
