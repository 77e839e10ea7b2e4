pub mod Cuts
pub mod Powers
pub mod Laws
