-- The substitution of words: Tcl(n), rules 2 to 8 and 11. The pieces of a word are substituted from left to right.
use Rattle.std.specs.Prelude.{ℕ, ◌+◌, Bool, true, false, List, [], ◌∷◌, ◌++◌}
use Rattle.tcl_chars.specs.Characters.{open_paren, close_paren}
use Rattle.tcl_list.specs.Elements.{elements_of}
use Rattle.tcl_words.specs.Parts.{Part, text, escape, var, elem_, bracket, Parts, no_parts, part, Shape}
use Rattle.tcl_meaning.specs.declared.code.Code.{Code}
use Rattle.tcl_meaning.specs.declared.code.Code.TheVariants as code
use Rattle.tcl_pages.specs.Texts.{Text}
use Rattle.tcl_meaning.specs.Completions.{Completion, nothing, code_now}
use Rattle.tcl_meaning.specs.Effects.{Here, Prog}
use Rattle.tcl_meaning.specs.Tasks.{Task, Script}
use Rattle.tcl_meaning.specs.Value.{Value, ◌>>=◌, give, fail, judged, call}
use Rattle.tcl_meaning.specs.Variables.{read}

-- a script that a command or a bracket of a script of this depth runs
abbrev pub inside : ℕ → Text → Task
inside d script = Script (d + 1) nothing script

-- the result where the code is ok; otherwise the completion is that of the command
abbrev pub result_by : Code → Completion → Prog Task (Value Text)
result_by code.Ok c = give c.result
result_by _ c = fail c

-- A bracket is replaced by its script's result.
abbrev pub bracket_text : ℕ → Text → Prog Task (Value Text)
bracket_text d script = do
  c ← call Here (inside d script)
  result_by (code_now c) c

-- the name of an element, as a script writes it
abbrev pub spelled_element : Text → Text → Text
spelled_element name index = name ++ open_paren ∷ [] ++ index ++ close_paren ∷ []

abbrev mutual
  pub piece_text : ℕ → Part → Prog Task (Value Text)
  piece_text d (text s) = give s.text
  piece_text d (escape s c) = give (c ∷ [])
  piece_text d (var s name) = read name.text
  piece_text d (elem_ s name index) = do
    i ← index_text d index
    read (spelled_element name.text i)
  piece_text d (bracket s script) = bracket_text d script.text

  pub index_text : ℕ → Parts → Prog Task (Value Text)
  index_text d no_parts = give []
  index_text d (part p ps) = do
    t ← piece_text d p
    more ← index_text d ps
    give (t ++ more)

abbrev pub pieces_text : ℕ → List Part → Prog Task (Value Text)
pieces_text d [] = give []
pieces_text d (p ∷ ps) = do
  t ← piece_text d p
  more ← pieces_text d ps
  give (t ++ more)

-- A word with `{*}` in front is read as a list, whose elements are the words.
abbrev pub expanded : Bool → Text → Prog Task (Value (List Text))
expanded true t = judged (elements_of t)
expanded false t = give (t ∷ [])

-- the words of a command, from left to right
abbrev pub words_text : ℕ → List Shape → Prog Task (Value (List Text))
words_text d [] = give []
words_text d (w ∷ ws) = do
  t ← pieces_text d w.pieces
  words ← expanded w.expands t
  more ← words_text d ws
  give (words ++ more)
