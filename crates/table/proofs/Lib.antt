pub mod Checks
pub mod Rows
pub mod Entries
pub mod Trip
