-- The words of a command that takes one or none.
use Rattle.std.specs.Prelude.{List, [], ◌∷◌, Option, Some, None, Ok}
use Rattle.tcl_pages.specs.Answers.{Answer}
use Rattle.tcl_pages.specs.Texts.{Text}
use Rattle.tcl_pages.specs.Usage.{usage}

abbrev pub up_to_one : Text → List Text → Answer (Option Text)
up_to_one u [] = Ok None
up_to_one u (a ∷ []) = Ok (Some a)
up_to_one u _ = usage u
