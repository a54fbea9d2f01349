-- A sound file has no fault to report: its survey is the visits of its terms, and none of these has one.
pub mod Survey
-- no fault of a page, of a key, of a row of the schema, or of a reference
pub mod Pages
pub mod Keys
pub mod Rows
pub mod Walk
-- and none at the end
pub mod Ends
pub mod LateRoots
pub mod NoFault
