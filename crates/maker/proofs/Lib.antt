pub mod Edges
pub mod Rows
pub mod Choosing
pub mod Candidates
pub mod Listing
pub mod Entry
