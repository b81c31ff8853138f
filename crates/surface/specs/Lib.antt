pub mod Surface
pub mod OneMesh
