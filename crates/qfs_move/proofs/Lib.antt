mod Sources
mod Groups
mod Turns
