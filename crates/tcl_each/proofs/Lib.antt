pub mod DealingLemmas
pub mod ElementLemmas
pub mod LoopListLemmas
pub mod MovingLemmas
pub mod PageLemmas
pub mod TurnLemmas
