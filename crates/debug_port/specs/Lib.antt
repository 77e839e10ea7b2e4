pub mod States
pub mod Commands
