pub mod Number
pub mod Crossing
pub mod Promised
