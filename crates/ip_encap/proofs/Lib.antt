pub mod Holes
pub mod Leaving
pub mod Passing
