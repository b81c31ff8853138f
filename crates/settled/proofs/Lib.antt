pub mod Examples
pub mod Unique
pub mod Contracts
pub mod FourCalls
