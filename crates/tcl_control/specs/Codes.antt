-- What `error` is given behind its message: error(n).
use Rattle.std.specs.Prelude.{List, drop}
use Rattle.tcl_pages.specs.Texts.{Text}
use Rattle.tcl_meaning.specs.Codes.{error_options}

abbrev pub options_given : List Text → List (Text × Text)
options_given words = error_options (drop 1 words)
