pub mod LeastPin
pub mod SameLevels
