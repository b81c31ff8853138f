pub mod Examples
pub mod Unique
pub mod FourCalls
