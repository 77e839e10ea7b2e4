pub mod Accesses
pub mod Iterated
pub mod Waits
pub mod Copies
pub mod Refused
