pub mod Bytes
pub mod Frame
pub mod Rule
pub mod Inner
