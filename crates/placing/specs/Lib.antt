pub mod Candidates
pub mod Starts
pub mod Views
