pub mod Engines
pub mod Fitting
pub mod Laws
pub mod Machines
pub mod Parts
pub mod Standing
pub mod Turns
pub mod Unwinding
