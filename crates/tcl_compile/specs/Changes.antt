-- The commands that change a variable by a word's text.
use Rattle.std.specs.Prelude.{◌≡◌, false, List, [], ◌∷◌}
use Rattle.tcl_words.specs.Parts.{Shape}
use Rattle.tcl_pages.specs.Texts.{Text}
use Rattle.tcl_code.specs.Guards.{inlined_of, name_of}
use Rattle.tcl_code.specs.Instructions.{Instruction, Write, Bump}
use Rattle.tcl_compile.specs.Literals.{IsLiteral}
use Rattle.tcl_code.specs.declared.inlined.Change.{Change}
use Rattle.tcl_code.specs.declared.inlined.Change.TheVariants as change

-- by the text on top
abbrev pub changing : Change → Text → Instruction
changing change.Set name = Write name
changing change.Incr name = Bump name

-- the words are the command's name, the variable's, and one more
abbrev pub IsChange : Change → Text → List Shape → Type 0
IsChange k name (w0 ∷ w1 ∷ w ∷ []) = IsLiteral w0 (name_of (inlined_of k)) × IsLiteral w1 name × (w.expands ≡ false)
IsChange k name _ = ⊥
