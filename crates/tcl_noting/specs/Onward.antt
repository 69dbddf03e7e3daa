-- What calls leave of an engine that is lent, one after another.
use Rattle.std.proofs.Common.{Bool, false, refl, ◌∙◌}
use Rattle.std.specs.Borrow.{MutBor}
use Rattle.tcl_noting.specs.Lent.{LentLeaves}

module _ {E : Type 0} (leaves : Bool → E → E → Type 0) where
  -- a call that does nothing leaves all
  pub leaves_same : ((e : E) → leaves false e e) → (e : MutBor E) → LentLeaves leaves false e e
  leaves_same same e = record { engine = refl; left = same e.now }

  -- calls in which no device failed, and one after them
  pub leaves_then : ((io : Bool) (a b c : E) → leaves false a b → leaves io b c → leaves io a c)
      → (io : Bool) (a b c : MutBor E) → LentLeaves leaves false a b → LentLeaves leaves io b c → LentLeaves leaves io a c
  leaves_then onward io a b c first second = record {
    engine = second.engine ∙ first.engine;
    left = onward io a.now b.now c.now first.left second.left;
  }
