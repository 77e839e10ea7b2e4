pub mod Edges
pub mod Silence
