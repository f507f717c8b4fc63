pub mod MaskLemmas
pub mod OrderLaws
pub mod PathTexts
