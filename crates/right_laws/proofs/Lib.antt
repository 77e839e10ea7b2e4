pub mod Judging
pub mod Bounding
pub mod Dividing
pub mod Locking
pub mod Refusing
pub mod Ending
pub mod Accessing
pub mod Encapsulating
