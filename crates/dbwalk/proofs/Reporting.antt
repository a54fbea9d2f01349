-- Walks beside the pages of a tree: how a reference is entered, what is visited below it, and what comes to a sink.
pub mod Belows
pub mod Besides
pub mod Enterings
pub mod Sinks
