-- `return` of one word, inlined (return(n)).
use Rattle.std.specs.Prelude.{◌≡◌, false, List, [], ◌∷◌}
use Rattle.tcl_words.specs.Parts.{Shape}
use Rattle.tcl_code.specs.Guards.{name_of}
use Rattle.tcl_code.specs.Instructions.{Instruction, Under, Call, Guard, Return, Skip}
use Rattle.tcl_code.specs.declared.inlined.Inlined.TheVariants as inlined
use Rattle.tcl_compile.specs.Literals.{IsLiteral}

-- the command's name, and one word more
abbrev pub IsReturn : List Shape → Type 0
IsReturn (w0 ∷ w ∷ []) = IsLiteral w0 (name_of inlined.Return) × (w.expands ≡ false)
IsReturn _ = ⊥

-- the completion of the text on top, and the general call beside it
abbrev pub returning : List Instruction
returning = Guard inlined.Return 2 ∷ Return ∷ Skip 2 ∷ Under (name_of inlined.Return) ∷ Call 2 ∷ []
