pub mod Toml
pub mod Commands
pub mod Rules
pub mod Events
pub mod Cuts
pub mod Stimulus
pub mod Inside
