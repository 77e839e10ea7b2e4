pub mod Transfers
pub mod Moves
