-- Commands with subcommands: array(n), dict(n), info(n), string(n).
use Rattle.std.specs.Prelude.{List, [], ◌∷◌, ◌++◌, map as each, Option, Some, None, if◌then◌else◌}
use Rattle.tcl_chars.specs.Messages.{about}
use Rattle.tcl_chars.specs.Texts.{literal}
use Rattle.tcl_pages.specs.Texts.{Text, same_text}
use Rattle.tcl_pages.specs.Usage.{choices}
use Rattle.tcl_pages.specs.declared.pages.DictPage.{DictPage}
use Rattle.tcl_pages.specs.declared.pages.DictPage.TheVariants as dictionary
use Rattle.tcl_pages.specs.declared.pages.PurePage.TheVariants as pure
use Rattle.tcl_pages.specs.declared.pages.StringPage.{StringPage}
use Rattle.tcl_pages.specs.declared.pages.StringPage.TheVariants as text
use Rattle.tcl_pages.specs.declared.pages.UpdatePage.TheVariants as update
use Rattle.tcl_meaning.specs.declared.page.Ensemble.{Ensemble}
use Rattle.tcl_meaning.specs.declared.page.Ensemble.TheVariants as ensemble
use Rattle.tcl_meaning.specs.declared.page.Page.{Page}
use Rattle.tcl_meaning.specs.declared.page.Page.TheVariants as page
use Rattle.tcl_meaning.specs.declared.page.SeenPage.TheVariants as seen

abbrev pub ensemble_name : Ensemble → Text
ensemble_name ensemble.Array = literal "array"
ensemble_name ensemble.Dict = literal "dict"
ensemble_name ensemble.Info = literal "info"
ensemble_name ensemble.String = literal "string"

abbrev pub dict : DictPage → Page
dict p = page.Pure (pure.Dict p)

abbrev pub string : StringPage → Page
string p = page.Pure (pure.String p)

-- the subcommands, in the order of code points
abbrev pub subcommands : Ensemble → List (Text × Page)
subcommands ensemble.Array =
    (literal "exists", page.Seen seen.ArrayExists) ∷ (literal "get", page.Seen seen.ArrayGet) ∷ (literal "names", page.Seen seen.ArrayNames)
    ∷ (literal "set", page.ArraySet) ∷ (literal "size", page.Seen seen.ArraySize) ∷ (literal "unset", page.ArrayUnset) ∷ []
subcommands ensemble.Dict =
    (literal "append", page.Update update.DictAppend) ∷ (literal "create", dict dictionary.Create) ∷ (literal "exists", dict dictionary.Exists)
    ∷ (literal "for", page.DictFor) ∷ (literal "get", dict dictionary.Get) ∷ (literal "incr", page.Update update.DictIncr) ∷ (literal "keys", dict dictionary.Keys)
    ∷ (literal "lappend", page.Update update.DictLappend) ∷ (literal "merge", dict dictionary.Merge) ∷ (literal "remove", dict dictionary.Remove)
    ∷ (literal "replace", dict dictionary.Replace) ∷ (literal "set", page.Update update.DictSet) ∷ (literal "size", dict dictionary.Size)
    ∷ (literal "unset", page.Update update.DictUnset) ∷ (literal "values", dict dictionary.Values) ∷ []
subcommands ensemble.Info =
    (literal "args", page.Seen seen.InfoArgs) ∷ (literal "body", page.Seen seen.InfoBody) ∷ (literal "commands", page.Seen seen.InfoCommands)
    ∷ (literal "complete", page.Pure pure.InfoComplete) ∷ (literal "exists", page.Seen seen.InfoExists) ∷ (literal "level", page.Seen seen.InfoLevel)
    ∷ (literal "procs", page.Seen seen.InfoProcs) ∷ (literal "vars", page.Seen seen.InfoVars) ∷ []
subcommands ensemble.String =
    (literal "compare", string text.Compare) ∷ (literal "equal", string text.Equal) ∷ (literal "first", string text.First) ∷ (literal "index", string text.Index)
    ∷ (literal "is", string text.Is) ∷ (literal "last", string text.Last) ∷ (literal "length", string text.Length) ∷ (literal "map", string text.Map)
    ∷ (literal "match", string text.Match) ∷ (literal "range", string text.Range) ∷ (literal "repeat", string text.Repeat) ∷ (literal "replace", string text.Replace)
    ∷ (literal "reverse", string text.Reverse) ∷ (literal "tolower", string text.Tolower) ∷ (literal "toupper", string text.Toupper)
    ∷ (literal "trim", string text.Trim) ∷ (literal "trimleft", string text.Trimleft) ∷ (literal "trimright", string text.Trimright) ∷ []

-- the page that a word names among these
abbrev pub page_among : Text → List (Text × Page) → Option Page
page_among word [] = None
page_among word (p ∷ ps) = if same_text p.0 word then Some p.1 else page_among word ps

abbrev pub subcommand_usage : Ensemble → Text
subcommand_usage e = ensemble_name e ++ literal " subcommand ?arg ...?"

abbrev pub unknown_subcommand : Ensemble → Text → Text
unknown_subcommand e word = about (literal "unknown or ambiguous subcommand") word (literal ": must be " ++ choices (each (λ p. p.0) (subcommands e)))
