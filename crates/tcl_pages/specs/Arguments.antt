-- The arguments of a command that takes so many: another count is answered by its usage.
use Rattle.std.specs.Prelude.{List, [], ◌∷◌, Option, Some, None, Ok}
use Rattle.tcl_pages.specs.Answers.{Answer}
use Rattle.tcl_pages.specs.Texts.{Text}
use Rattle.tcl_pages.specs.Usage.{usage}

abbrev pub one_argument : Text → List Text → Answer Text
one_argument u (a ∷ []) = Ok a
one_argument u _ = usage u

abbrev pub two_arguments : Text → List Text → Answer (Text × Text)
two_arguments u (a ∷ b ∷ []) = Ok (a, b)
two_arguments u _ = usage u

abbrev pub three_arguments : Text → List Text → Answer (Text × Text × Text)
three_arguments u (a ∷ b ∷ c ∷ []) = Ok (a, b, c)
three_arguments u _ = usage u

-- the last may be left out
abbrev pub one_or_two : Text → List Text → Answer (Text × Option Text)
one_or_two u (a ∷ []) = Ok (a, None)
one_or_two u (a ∷ b ∷ []) = Ok (a, Some b)
one_or_two u _ = usage u

abbrev pub two_or_three : Text → List Text → Answer (Text × Text × Option Text)
two_or_three u (a ∷ b ∷ []) = Ok (a, b, None)
two_or_three u (a ∷ b ∷ c ∷ []) = Ok (a, b, Some c)
two_or_three u _ = usage u

abbrev pub three_or_four : Text → List Text → Answer (Text × Text × Text × Option Text)
three_or_four u (a ∷ b ∷ c ∷ []) = Ok (a, b, c, None)
three_or_four u (a ∷ b ∷ c ∷ d ∷ []) = Ok (a, b, c, Some d)
three_or_four u _ = usage u
