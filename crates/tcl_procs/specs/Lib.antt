pub mod Binding
pub mod Lambdas
pub mod Levels
pub mod Linking
pub mod Looking
pub mod Reading
pub mod Renaming
