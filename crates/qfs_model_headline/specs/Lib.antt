pub mod Nodes
pub mod Disks
pub mod Faults
