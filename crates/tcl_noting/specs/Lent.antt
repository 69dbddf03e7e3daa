-- What calls leave of an engine that is lent.
use Rattle.std.specs.Prelude.{◌≡◌, Bool}
use Rattle.std.specs.Borrow.{MutBor}

-- the loan stays the same, and of the engine is left what its own calls leave
pub record LentLeaves {E : Type 0} (leaves : Bool → E → E → Type 0) (io : Bool) (old new : MutBor E) : Type 0 where
  pub engine : new.ghost_name ≡ old.ghost_name
  pub left : leaves io old.now new.now
