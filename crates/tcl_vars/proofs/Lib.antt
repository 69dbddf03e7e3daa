pub mod AssignLemmas
pub mod AssignedTexts
pub mod ElementLemmas
pub mod GivenTexts
pub mod JoinLemmas
pub mod PlaceLemmas
pub mod PutAgain
pub mod PutLemmas
mod QuickLemmas
mod QuickUpdateLemmas
pub mod SetLemmas
pub mod UnsetLemmas
pub mod One
pub mod UpdateLemmas
pub mod WayLemmas
