pub mod Members
pub mod Eager
pub mod Numeric
pub mod OfNumbers
