pub mod Filled
pub mod Rule
pub mod Inner
pub mod Left
