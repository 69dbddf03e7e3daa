pub mod Emptiness
pub mod NumbersLemmas
pub mod OfNumbers
pub mod SameLists
