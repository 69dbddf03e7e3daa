-- What is emitted. In a dialect of numbers.
use Rattle.std.specs.Prelude.{ℕ, List}
use Rattle.tcl_chars.specs.declared.numbers.Dialect.{Dialect}
use Rattle.tcl_words.specs.Parts.{Part, Shape}
use Rattle.tcl_pages.specs.Texts.{Text}
use Rattle.tcl_meaning.specs.Script.{run_command}
use Rattle.tcl_meaning.specs.Substitution.{bracket_text, piece_text, pieces_text}
use Rattle.tcl_code.specs.Instructions.{Instruction}
use Rattle.tcl_code.specs.Parts.{Does, Runs}
use Rattle.tcl_compile.specs.Fragments.{Joins, Calls, Gathers, Follows}

-- the code of a piece, of a word, and of a bracket's script
abbrev pub PieceCode : Dialect → Part → List Instruction → Type 0
PieceCode dialect p c = Does dialect c (λ d. piece_text d p)

abbrev pub WordCode : Dialect → List Part → List Instruction → Type 0
WordCode dialect ps c = Does dialect c (λ d. pieces_text d ps)

abbrev pub BracketCode : Dialect → Text → List Instruction → Type 0
BracketCode dialect script c = Does dialect c (λ d. bracket_text d script)

-- of a command that has been paid for, and of a script
abbrev pub CommandCode : Dialect → List Shape → List Instruction → Type 0
CommandCode dialect ws c = Runs dialect c (λ d. run_command dialect d ws)

abbrev pub ScriptCode : Dialect → Text → List Instruction → Type 0
ScriptCode dialect t c = Follows dialect c t

-- of what is left of a word's n pieces, of a command's n words, and of a command some of whose words are expanded
abbrev pub PiecesLeft : Dialect → ℕ → List Part → List Instruction → Type 0
PiecesLeft dialect n ps c = Joins dialect n c ps

abbrev pub WordsLeft : Dialect → ℕ → List Shape → List Instruction → Type 0
WordsLeft dialect n ws c = Calls dialect n c ws

abbrev pub GatheredLeft : Dialect → List Shape → List Instruction → Type 0
GatheredLeft dialect ws c = Gathers dialect c ws
