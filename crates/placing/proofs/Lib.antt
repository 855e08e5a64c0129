pub mod Chains
pub mod Exclusive
pub mod Places
