pub mod Listable
pub mod Memory
pub mod FirstBus
pub mod Fabric
