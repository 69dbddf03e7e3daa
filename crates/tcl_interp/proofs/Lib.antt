pub mod Ending
mod Flushed
mod Keeping
mod Parts
mod Slicing
mod Standing
