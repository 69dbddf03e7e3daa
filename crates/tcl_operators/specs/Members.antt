-- Whether a text is an element of a list: expr(n), Operators.
use Rattle.std.specs.Prelude.{Bool, Ok}
use Rattle.tcl_list.specs.Elements.{elements_of}
use Rattle.tcl_pages.specs.Answers.{Answer, ◌>>=◌}
use Rattle.tcl_meaning.specs.Operators.{is_in}
use Rattle.tcl_pages.specs.Texts.{Text}

abbrev pub is_member : Text → Text → Answer Bool
is_member t list = do
  es ← elements_of list
  Ok (is_in t es)
