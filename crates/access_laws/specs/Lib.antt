pub mod Locality
pub mod Replay
pub mod Steps
pub mod Boots
