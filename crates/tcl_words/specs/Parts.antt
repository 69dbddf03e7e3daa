-- Pieces and words as the rules see them.
use Rattle.std.specs.Prelude.{ℕ, Bool, List, [], ◌∷◌, map}
use Rattle.std.specs.Str.{chars}
use Rattle.tcl_words.specs.declared.word.Span.{Span}
use Rattle.tcl_words.specs.declared.word.Form.{Form}
use Rattle.tcl_words.specs.declared.word.Piece.{Piece, fold-Piece}
use Rattle.tcl_words.specs.declared.word.Piece.TheOpen.{Piece-F}
use Rattle.tcl_words.specs.declared.word.Word.{Word}

-- a stretch of a text: where it begins, in bytes, and its characters
pub record Stretch : Type 0 where
  pub start : ℕ
  pub text : List ℕ

mutual
  -- a piece of a word, with the stretch that it takes
  pub data Part : Type 0 where
    -- characters that stand for themselves
    text : Stretch → Part
    -- a backslash form, and the character that it stands for
    escape : Stretch → ℕ → Part
    -- a variable, and its name
    var : Stretch → Stretch → Part
    -- an element of an array, its name, and the pieces of its index
    elem_ : Stretch → Stretch → Parts → Part
    -- a bracket, and its script
    bracket : Stretch → Stretch → Part

  pub data Parts : Type 0 where
    no_parts : Parts
    part : Part → Parts → Parts

abbrev pub parts_of : List Part → Parts
parts_of [] = no_parts
parts_of (p ∷ ps) = part p (parts_of ps)

-- a word
pub record Shape : Type 0 where
  pub form : Form
  -- does `{*}` stand in front
  pub expands : Bool
  pub pieces : List Part

-- ---- what the code holds, without where it lies in memory

abbrev pub stretch_of : Span → Stretch
stretch_of s = record { start = s.start; text = chars s.text.now }

abbrev pub part_step : Piece-F Part → Part
part_step (Piece-F.Text s) = text (stretch_of s)
part_step (Piece-F.Escape s c) = escape (stretch_of s) c
part_step (Piece-F.Var s name) = var (stretch_of s) (stretch_of name)
part_step (Piece-F.Elem s name index) = elem_ (stretch_of s) (stretch_of name) (parts_of index.items)
part_step (Piece-F.Bracket s script) = bracket (stretch_of s) (stretch_of script)

abbrev pub part_of : Piece → Part
part_of = fold-Piece Part part_step

abbrev pub shape_of : Word → Shape
shape_of w = record { form = w.form; expands = w.expands; pieces = map part_of w.pieces.items }
