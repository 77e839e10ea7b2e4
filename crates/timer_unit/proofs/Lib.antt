pub mod CompareRegisters
pub mod Still
