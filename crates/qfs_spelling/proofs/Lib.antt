pub mod Fronts
pub mod Lists
pub mod PathLaws
pub mod SetLaws
pub mod ValueLaws
