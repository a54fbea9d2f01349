pub mod Common
-- Clean means sound: from a survey without faults to terms, and to a sound file.
pub mod FaultlessSurveys
pub mod FaultlessFiles
-- Sound means clean: from terms to their visits, keys and rows, and to the survey of a sound file.
pub mod TermVisits
pub mod TermKeys
pub mod TermRows
pub mod SoundFiles
-- Both at once, and files that are not sound.
pub mod Soundness
pub mod Broken
-- The rows of the statistics.
pub mod RowCounts
