-- The rows of the statistics, which are apart from soundness: those of a form with all pages count each page of the file once.
pub mod RowPages
pub mod FormRows
