pub mod Texts
pub mod Benches
pub mod Calls
pub mod Comparing
pub mod Firsts
