pub mod Below
pub mod Broken
pub mod Samples
pub mod Soundness
pub mod Statistics
pub mod Surveys
