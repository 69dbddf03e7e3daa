pub mod Adding
pub mod Advancing
pub mod Answering
mod Dialects
pub mod Fitting
pub mod Forward
pub mod Going
pub mod Landing
pub mod Later
pub mod Making
pub mod Quiet
pub mod Returning
pub mod Single
pub mod Stuck
pub mod Turning
pub mod Unwinding
pub mod Walking
pub mod Weights
