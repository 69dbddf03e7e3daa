-- Texts that variables get, wherever they stand.
use Rattle.std.specs.Prelude.{List}
use Rattle.tcl_pages.specs.Texts.{Text}
use Rattle.tcl_values.specs.Kept.{texts}
use Rattle.tcl_vars.specs.declared.given.Given.{Given}
use Rattle.tcl_vars.specs.declared.given.Given.TheVariants as given

abbrev pub given_texts : Given → List Text
given_texts (given.Values values) = values.now
given_texts (given.Elements elements) = texts elements.now
