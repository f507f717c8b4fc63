pub mod States
