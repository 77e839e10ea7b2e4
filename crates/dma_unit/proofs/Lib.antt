pub mod NoTrigger
pub mod Quiet
