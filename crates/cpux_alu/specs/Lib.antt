pub mod Effects
pub mod Sums
pub mod Shifts
pub mod Operations
pub mod Addresses
pub mod Laws
