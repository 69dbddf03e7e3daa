-- unset(n): one name.
use Rattle.tcl_pages.specs.Texts.{Text}
use Rattle.tcl_meaning.specs.Effects.{Plain}
use Rattle.tcl_meaning.specs.Value.{Value, ◌>>=◌, look}
use Rattle.tcl_meaning.specs.Variables.{remove_change}
use Rattle.tcl_meaning.specs.VariablePages.{make_if}

-- a variable that can't be unset is passed over
abbrev pub unset_quietly : Text → Plain (Value (Unit {0}))
unset_quietly name = do
  s ← look
  make_if (remove_change s name)
