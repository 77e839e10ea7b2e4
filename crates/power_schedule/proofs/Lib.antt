pub mod Done
pub mod FirstIndex
pub mod LastBegun
pub mod OnUntil
pub mod Order
pub mod Unpowered
