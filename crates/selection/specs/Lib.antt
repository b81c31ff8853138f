pub mod Error
pub mod Kept
pub mod Marks
pub mod Selected
pub mod Rule
pub mod Inner
pub mod Sweep
