pub mod Accesses
pub mod Wiping
pub mod Fitting
pub mod Rows
pub mod Erases
pub mod FirstBoots
