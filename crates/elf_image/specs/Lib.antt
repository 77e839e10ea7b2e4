pub mod Elf
pub mod Fram
pub mod Image
