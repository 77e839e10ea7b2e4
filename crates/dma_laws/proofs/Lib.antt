pub mod Shapes
pub mod Counted
pub mod Copied
pub mod Units
pub mod Refusing
