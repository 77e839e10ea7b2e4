pub mod FileLemmas
pub mod FirstBreaking
pub mod OnTick
pub mod Order
pub mod Stretches
pub mod Views
