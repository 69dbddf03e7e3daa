-- The words of a call, given to the formals from the left: proc(n).
use Rattle.std.specs.Prelude.{Bool, false, List, [], ◌∷◌, Option, None, Some, if◌then◌else◌}
use Rattle.tcl_chars.specs.Texts.{literal}
use Rattle.tcl_pages.specs.Texts.{Text}
use Rattle.tcl_meaning.specs.Frames.{Variables}
use Rattle.tcl_meaning.specs.Procedures.{is_rest, with_argument, shown_formal}
use Rattle.tcl_meaning.specs.State.{Formal}

-- is the first formal the last one, and takes the rest
abbrev pub takes_rest : List Formal → Bool
takes_rest [] = false
takes_rest (f ∷ []) = is_rest f
takes_rest (f ∷ g ∷ fs) = false

-- what a formal is given: the first word, or its default
abbrev pub argument_of : Formal → List Text → Option Text
argument_of f [] = f.default
argument_of f (w ∷ ws) = Some w

-- the variables with an argument, if there is one
abbrev pub with_given : Variables → Formal → Option Text → Option Variables
with_given vs f None = None
with_given vs f (Some t) = Some (with_argument vs f t)

-- how a formal stands in the usage
abbrev pub shown_as : Bool → Formal → Text
shown_as rest f = if rest then literal "?arg ...?" else shown_formal f f.default
