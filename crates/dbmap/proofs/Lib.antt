pub mod Counting
pub mod Received
pub mod MapAnswers
