-- What stands where a code runs has the shape of a way, in the innermost body and in each loop that is open.
use Rattle.std.specs.Prelude.{◌≡◌, ℕ, ◌+◌, ◌≤◌, List, [], ◌∷◌, length}
use Rattle.tcl_meaning.specs.Completions.{Completion}
use Rattle.tcl_meaning.specs.Script.{most_depth}
use Rattle.tcl_code.specs.Instructions.{Instruction}
use Rattle.tcl_code.specs.Machine.{Loop, Texts}
use Rattle.tcl_code.specs.Valid.{Comes}
use Rattle.tcl_code.specs.declared.shape.Shape.{Shape}

-- there is one result more than brackets are open, and the script stands at least as deep as they
pub record IsShaped (ts : Texts) (ls : List Texts) (rs : List Completion) (d : ℕ) (s : Shape) : Type 0 where
  pub texts : length ts ≡ s.height
  pub lists : length ls ≡ s.lists
  pub results : length rs ≡ s.depth + 1
  pub brackets : s.depth ≤ d

-- Ways come to where the code goes on after `break` and where the body ends, with the shape of what the loop has saved.
pub record LoopFits (code : List Instruction) (o : Loop) (s : Shape) : Type 0 where
  pub breaks : Comes code o.at s
  pub continues : Comes code (o.at + 1) s
  pub shaped : IsShaped o.texts o.lists o.results o.depth s
  pub deep : o.depth ≤ most_depth

-- A number of loops are open, each of which fits; at most `paid` commands are paid for outside of the innermost body that haven't been
-- called yet.
abbrev pub LoopsFit : List Instruction → List Loop → (loops paid : ℕ) → Type 0
LoopsFit code [] loops paid = loops ≡ 0
LoopsFit code (o ∷ os) loops paid = (s : Shape) × LoopFits code o s × (loops ≡ s.loops + 1) × ((rest : ℕ) × (s.paid + rest ≤ paid) × LoopsFit code os s.loops rest)
