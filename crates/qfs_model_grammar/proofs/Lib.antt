pub mod OnLiterals
pub mod FirstBad
