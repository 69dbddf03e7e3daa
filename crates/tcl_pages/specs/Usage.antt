-- What a command says of words that it can't take.
use Rattle.std.specs.Prelude.{List, [], ◌∷◌, ◌++◌, Err}
use Rattle.tcl_chars.specs.Messages.{about}
use Rattle.tcl_chars.specs.Texts.{literal}
use Rattle.tcl_pages.specs.Answers.{Answer}
use Rattle.tcl_pages.specs.Texts.{Text}

-- another count of words than its usage has
abbrev pub usage_text : Text → Text
usage_text u = literal "wrong # args: should be \"" ++ (u ++ literal "\"")

abbrev pub usage : {A : Type 0} → Text → Answer A
usage u = Err (usage_text u)

-- choices in a sentence, as `a, b, or c`
abbrev pub choices : List Text → Text
choices [] = []
choices (t ∷ []) = literal "or " ++ t
choices (t ∷ u ∷ ts) = t ++ literal ", " ++ choices (u ∷ ts)

-- an option that is none of these
abbrev pub bad_option : {A : Type 0} → Text → List Text → Answer A
bad_option t options = Err (about (literal "bad option") t (literal ": must be " ++ choices options))
