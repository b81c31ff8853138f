pub mod Triangles
pub mod Closed
pub mod Meshed
pub mod Rule
pub mod Inner
pub mod Kept
