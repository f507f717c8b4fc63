pub mod Fronts
pub mod Sets
