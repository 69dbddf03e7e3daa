pub mod UpToOne
pub mod WordAt
