pub mod Program
pub mod Text
pub mod Rule
pub mod Inner
