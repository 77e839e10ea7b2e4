pub mod RegisterForm
pub mod AddressInstructions
pub mod Stack
pub mod Extended
pub mod Instruction
pub mod KnownWords
