pub mod Fields
pub mod Counted
pub mod Waiting
pub mod Whole
pub mod Holding
