pub mod Braces
pub mod Elements
pub mod Faults
pub mod FirstFault
pub mod Laws
pub mod Spelling
pub mod Texts
pub mod Written
