pub mod Arguments
pub mod Items
pub mod Positions
