pub mod MemoryBy
pub mod Kept
pub mod ListedAccesses
pub mod NothingNoted
pub mod Places
pub mod StillClocks
pub mod Writes
