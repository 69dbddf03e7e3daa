-- Commands whose answer their words alone decide. In a dialect of numbers.
use Rattle.std.specs.Prelude.{List, [], ◌∷◌, Ok}
use Rattle.tcl_chars.specs.declared.numbers.Dialect.{Dialect}
use Rattle.tcl_chars.specs.Texts.{literal}
use Rattle.tcl_words.specs.Complete.{is_complete}
use Rattle.tcl_pages.specs.Answers.{Answer}
use Rattle.tcl_pages.specs.DictPages.{dict_page}
use Rattle.tcl_pages.specs.ListPages.{list_page}
use Rattle.tcl_pages.specs.Results.{truth_text}
use Rattle.tcl_pages.specs.StringPages.{string_page}
use Rattle.tcl_pages.specs.Texts.{Text}
use Rattle.tcl_pages.specs.Usage.{usage}
use Rattle.tcl_pages.specs.declared.pages.PurePage.{PurePage}
use Rattle.tcl_pages.specs.declared.pages.PurePage.TheVariants as page

-- info complete command
abbrev pub info_complete : List Text → Answer Text
info_complete (t ∷ []) = Ok (truth_text (is_complete t))
info_complete _ = usage (literal "info complete command")

-- what a command answers, or its error, by the words behind its name
unfoldable pub pure : Dialect → PurePage → List Text → Answer Text
pure dialect (page.List p) ts = list_page dialect p ts
pure dialect (page.String p) ts = string_page dialect p ts
pure dialect (page.Dict p) ts = dict_page p ts
pure dialect page.InfoComplete ts = info_complete ts
