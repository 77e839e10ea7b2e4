pub mod Operands
pub mod TwoOperands
pub mod OneOperand
pub mod Jumps
pub mod Execution
pub mod Steps
