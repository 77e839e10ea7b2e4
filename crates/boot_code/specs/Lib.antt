pub mod Place
pub mod Boot
pub mod View
pub mod ImageSeal
pub mod Facts
pub mod Runs
pub mod Laws
