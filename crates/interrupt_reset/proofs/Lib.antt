pub mod FirstLine
pub mod LeastCause
