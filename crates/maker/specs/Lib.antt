pub mod Renumbering
pub mod Choosing
pub mod Views
