-- What the program answers for its words and its file, and what a session does with its input.
pub mod Ends
pub mod Faults
pub mod Lines
pub mod Program
pub mod Scripts
pub mod Session
pub mod Turns
pub mod Words
