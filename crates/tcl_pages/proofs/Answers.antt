-- Answers that go on.
use Rattle.std.proofs.Common.{◌≡◌, Ok, Err, refl}
use Rattle.tcl_pages.specs.Answers.{Answer, ◌>>=◌}

-- an answer goes on alike where the steps behind it are the same
pub same_steps : {A B : Type 0} (r : Answer A) (f g : A → Answer B) → ((a : A) → f a ≡ g a) → (r >>= f) ≡ (r >>= g)
same_steps (Ok a) f g e = e a
same_steps (Err m) f g e = refl
