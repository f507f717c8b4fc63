pub mod Images
pub mod PastLaws
pub mod Pushed
