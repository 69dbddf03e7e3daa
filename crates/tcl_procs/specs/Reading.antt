-- Formals that are read one after another: proc(n).
use Rattle.std.specs.Prelude.{Bool, true, false, List, [], ◌∷◌, ◌++◌, Ok}
use Rattle.tcl_list.specs.Elements.{elements_of}
use Rattle.tcl_pages.specs.Answers.{Answer, ◌>>=◌}
use Rattle.tcl_pages.specs.Texts.{Text}
use Rattle.tcl_meaning.specs.Procedures.{formal_by}
use Rattle.tcl_meaning.specs.State.{Formal}

-- has a text no character
abbrev pub is_empty : Text → Bool
is_empty [] = true
is_empty (c ∷ cs) = false

-- the formal that a text is read as
abbrev pub formal_of_text : Text → Answer Formal
formal_of_text t = elements_of t >>= λ fields. formal_by t fields

-- formals in front of others
abbrev pub in_front : List Formal → Answer (List Formal) → Answer (List Formal)
in_front fs more = more >>= λ gs. Ok (fs ++ gs)
