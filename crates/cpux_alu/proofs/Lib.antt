pub mod Exact
pub mod InWidth
pub mod Overflow
pub mod Scaled
pub mod Status
