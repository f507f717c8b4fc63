pub mod Examples
pub mod Image
pub mod LogRecord
pub mod Spelled
pub mod Tests
pub mod Values
pub mod Whole
