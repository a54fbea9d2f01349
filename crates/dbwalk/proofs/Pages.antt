-- The check of a page of a tree.
pub mod PageReportings
pub mod PageVisits
pub mod Levels
