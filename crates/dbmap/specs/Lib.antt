pub mod MapRuns
pub mod Maps
