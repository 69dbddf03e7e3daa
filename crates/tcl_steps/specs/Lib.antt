pub mod Asked
pub mod AtOnce
pub mod Comes
pub mod CompletionShape
pub mod Ends
pub mod Faults
pub mod Pairs
pub mod Views
