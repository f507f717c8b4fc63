pub mod OnLiterals
pub mod MadeNames
pub mod SmallPuts
pub mod MadeLimits
