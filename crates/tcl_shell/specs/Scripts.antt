-- The script of a file, as the code holds it.
use Rattle.std.specs.Prelude.{List, ℕ}
use Rattle.std.specs.Str.{chars}
use Rattle.std.specs.String.{string_bytes}
use Rattle.tcl_shell.specs.declared.newlines.Script.{Script}
use Rattle.tcl_shell.specs.declared.newlines.Script.TheVariants as script

abbrev pub script_text : Script → List ℕ
script_text (script.Own t) = chars t.now
script_text (script.Joined t) = chars (string_bytes t)
