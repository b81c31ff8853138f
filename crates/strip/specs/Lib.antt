pub mod Strip
pub mod Reading
pub mod Stripped
pub mod Rule
pub mod Inner
