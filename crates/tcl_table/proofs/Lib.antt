pub mod Moved
pub mod Noting
pub mod Standing
pub mod Numbering
