-- What format(n) has shown so far.
use Rattle.std.specs.Prelude.{◌++◌, Ok, Err}
use Rattle.tcl_pages.specs.Formats.{Taken}
use Rattle.tcl_pages.specs.Texts.{Text}

-- what is shown behind a text
abbrev pub shown_behind : Text → Taken Text → Taken Text
shown_behind t (Ok s) = Ok (t ++ s.0, s.1)
shown_behind t (Err message) = Err message
