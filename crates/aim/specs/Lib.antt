pub mod Quotient
pub mod Walk
pub mod Aimed
pub mod Geometry
pub mod Rule
pub mod Inner
pub mod Found
