-- The first character of a text that passes.
use Rattle.std.specs.Prelude.{ℕ, Bool, [], ◌∷◌, if◌then◌else◌}
use Rattle.tcl_pages.specs.Texts.{Text}

-- what a text has left at the first character that splits it
abbrev pub to_separator : (ℕ → Bool) → Text → Text
to_separator splits [] = []
to_separator splits (c ∷ cs) = if splits c then c ∷ cs else to_separator splits cs
