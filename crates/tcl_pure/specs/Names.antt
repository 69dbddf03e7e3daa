-- The names of subcommands in a sentence.
use Rattle.std.specs.Prelude.{List, map as each}
use Rattle.tcl_meaning.specs.declared.page.Page.{Page}
use Rattle.tcl_pages.specs.Texts.{Text}
use Rattle.tcl_pages.specs.Usage.{choices}

-- `a, b, or c`
abbrev pub names_to_choose : List (Text × Page) → Text
names_to_choose entries = choices (each (λ p. p.0) entries)
