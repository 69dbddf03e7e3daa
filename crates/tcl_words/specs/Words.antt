-- The rules of Tcl(n): blanks, comments, pieces, words, the first command. Each reading takes the text that is left,
-- and gives what it read and the text behind it.
use Rattle.std.specs.Prelude.{ℕ, zero, suc, ◌+◌, ◌-◌, Bool, true, false, ◌&&◌, ◌||◌, ◌==◌, List, [], ◌∷◌, drop, Option, Some, None, Result, Ok, Err, if◌then◌else◌}
use Rattle.tcl_chars.specs.Characters.{newline, backslash, semicolon, dollar, quote, open_brace, close_brace, open_paren, close_paren, open_bracket, close_bracket, number_sign, colon}
use Rattle.tcl_chars.specs.Classes.{is_word_space, is_name_char}
use Rattle.tcl_chars.specs.Escape.{escape as escape_of}
use Rattle.tcl_chars.specs.Place.{begins, tail, before, place}
use Rattle.tcl_chars.specs.Reading.{◌>>=◌, Reading, all_turns}
use Rattle.tcl_words.specs.declared.fault.Syntax.{Syntax}
use Rattle.tcl_words.specs.declared.fault.Syntax.TheVariants.{AfterBrace, AfterQuote, MissingBrace, MissingBracket, MissingQuote, MissingParen, MissingVariableBrace, TooDeep}
use Rattle.tcl_words.specs.declared.word.Form.{Form}
use Rattle.tcl_words.specs.declared.word.Form.TheVariants as form
use Rattle.tcl_words.specs.declared.blanks.Gap.{Gap}
use Rattle.tcl_words.specs.declared.blanks.Gap.TheVariants as gap
use Rattle.tcl_words.specs.declared.front.Kind.{Kind}
use Rattle.tcl_words.specs.declared.front.Kind.TheVariants as kind
use Rattle.tcl_words.specs.declared.front.Mode.{Mode}
use Rattle.tcl_words.specs.declared.front.Mode.TheVariants as mode
pub use Rattle.tcl_words.specs.Spelling.{ends_word, begins_variable, marked}
use Rattle.tcl_words.specs.Parts.{Stretch, Part, text, escape, var, elem_, bracket, Parts, parts_of, Shape}

-- ---- between words and commands

-- what follows the word space and the backslash-newlines at the front (rule 3)
unfoldable pub after_blanks : List ℕ → List ℕ
after_blanks [] = []
after_blanks (c ∷ []) = if is_word_space c then [] else c ∷ []
after_blanks (c ∷ d ∷ cs) =
    if is_word_space c then after_blanks (d ∷ cs)
    else if c == backslash && d == newline then after_blanks cs
    else c ∷ d ∷ cs

-- What follows the separators and the comments at the front (rules 1 and 10). In a comment a backslash and the
-- character after it are passed together, and the first newline not so passed ends it.
unfoldable pub after_gaps : Gap → List ℕ → List ℕ
after_gaps g [] = []
after_gaps gap.Between (c ∷ cs) =
    if is_word_space c || c == newline || c == semicolon || (c == backslash && begins newline cs) then after_gaps gap.Between cs
    else if c == number_sign then after_gaps (gap.Comment false) cs
    else c ∷ cs
after_gaps (gap.Comment hidden) (c ∷ cs) =
    if hidden then after_gaps (gap.Comment false) cs
    else if c == newline then after_gaps gap.Between cs
    else after_gaps (gap.Comment (c == backslash)) cs

-- ---- pieces

-- what follows the name at the front: letters, digits, underscores and runs of two or more colons (rule 8)
unfoldable pub after_name : Bool → List ℕ → List ℕ
after_name in_colons [] = []
after_name in_colons (c ∷ cs) =
    if is_name_char c then after_name false cs
    else if c == colon && (in_colons || begins colon cs) then after_name true cs
    else c ∷ cs

-- the end of the text ends a bare word, and leaves the others open
abbrev pub kind_at_end : Mode → Kind
kind_at_end (mode.Bare nested) = kind.Ends
kind_at_end mode.Quoted = kind.Open
kind_at_end mode.Index = kind.Open

abbrev pub fault_at_end : Mode → Syntax
fault_at_end mode.Quoted = MissingQuote
fault_at_end mode.Index = MissingParen
fault_at_end (mode.Bare nested) = MissingQuote

abbrev pub ends_pieces : Mode → List ℕ → Bool
ends_pieces (mode.Bare nested) cs = ends_word nested cs
ends_pieces mode.Quoted cs = begins quote cs
ends_pieces mode.Index cs = begins close_paren cs

unfoldable pub kind_of : Mode → List ℕ → Kind
kind_of m [] = kind_at_end m
kind_of m (c ∷ cs) =
    if ends_pieces m (c ∷ cs) then kind.Ends
    else if c == backslash then kind.Backslashed
    else if c == open_bracket then kind.Opening
    else if c == dollar && begins_variable cs then kind.Variable
    else kind.Plain

abbrev pub is_plain : Kind → Bool
is_plain kind.Plain = true
is_plain kind.Ends = false
is_plain kind.Open = false
is_plain kind.Backslashed = false
is_plain kind.Opening = false
is_plain kind.Variable = false

-- what follows the plain characters at the front
unfoldable pub after_plain : Mode → List ℕ → List ℕ
after_plain m [] = []
after_plain m (c ∷ cs) = if is_plain (kind_of m (c ∷ cs)) then after_plain m cs else c ∷ cs

-- from the first `}` on
unfoldable pub at_variable_brace : List ℕ → Result (List ℕ) Syntax
at_variable_brace [] = Err MissingVariableBrace
at_variable_brace (c ∷ cs) = if c == close_brace then Ok (c ∷ cs) else at_variable_brace cs

-- From the brace on that matches one before the text (rule 6). The flag says that a backslash hides the first
-- character, and the number how many braces are open inside.
unfoldable pub at_brace : Bool → ℕ → List ℕ → Result (List ℕ) Syntax
at_brace hidden depth [] = Err MissingBrace
at_brace hidden depth (c ∷ cs) =
    if hidden then at_brace false depth cs
    else if c == close_brace then (if depth == 0 then Ok (c ∷ cs) else at_brace false (depth - 1) cs)
    else if c == open_brace then at_brace false (depth + 1) cs
    else at_brace (c == backslash) depth cs

-- Of the text inside braces: what follows the characters at the front that stand for themselves, up to a
-- backslash-newline. A backslash hides the next character, so of two backslashes and a newline none is one.
unfoldable pub after_verbatim : List ℕ → List ℕ
after_verbatim [] = []
after_verbatim (c ∷ []) = []
after_verbatim (c ∷ d ∷ cs) =
    if c == backslash then (if d == newline then c ∷ d ∷ cs else after_verbatim cs)
    else after_verbatim (d ∷ cs)

-- a backslash-newline stands at the front
abbrev pub begins_hidden_newline : List ℕ → Bool
begins_hidden_newline cs = begins backslash cs && begins newline (tail cs)

-- ---- words

abbrev pub form_of : List ℕ → Form
form_of cs = if begins open_brace cs then form.Braced else if begins quote cs then form.Quoted else form.Bare

-- a word may end only where a separator follows
abbrev pub closed : Syntax → Bool → Shape → List ℕ → Result (Shape × List ℕ) Syntax
closed fault nested w rest = if ends_word nested rest then Ok (w, rest) else Err fault

-- what stands between two places of a text of `size` bytes
abbrev pub stretch : ℕ → List ℕ → List ℕ → Stretch
stretch size from to = record { start = place size from; text = before from to }

-- a `]` that ends a command belongs to the rest
abbrev pub after_command : List ℕ → List ℕ
after_command cs = if begins close_bracket cs then cs else tail cs

-- the next piece of the text inside braces, before whose end the whole text has `size` bytes
unfoldable pub verbatim_at : ℕ → Reading Syntax (Option Part)
verbatim_at size [] = Ok (None, [])
verbatim_at size (c ∷ cs) =
    let here = c ∷ cs in
    if begins_hidden_newline here then (let rest = drop (escape_of here).1 here in Ok (Some (escape (stretch size here rest) (escape_of here).0), rest))
    else (let rest = after_verbatim here in Ok (Some (text (stretch size here rest)), rest))

-- from the `{` of a braced word to behind its `}`, in a text of `size` bytes
unfoldable pub braced_at : ℕ → Reading Syntax (List Part)
braced_at size cs = do
  close ← at_brace false 0 (tail cs)
  found ← all_turns (verbatim_at (place size close)) (before (tail cs) close)
  Ok (found.0, tail close)

-- how what may nest is read
pub record Inner : Type 0 where
  -- from behind `[` to its `]`
  pub bracket : List ℕ → Result (List ℕ) Syntax
  -- from behind `(` to behind its `)`
  pub index : Reading Syntax Parts

-- `size` is the size of the whole text, in bytes
module _ (size : ℕ) (inner : Inner) where
  -- a variable without braces from its `$` on, whose name ends at `rest`
  abbrev pub named : List ℕ → List ℕ → List ℕ → Result (Part × List ℕ) Syntax
  named cs name rest =
      if begins open_paren rest then (do
        found ← inner.index (tail rest)
        Ok (elem_ (stretch size cs found.1) (stretch size name rest) found.0, found.1))
      else Ok (var (stretch size cs rest) (stretch size name rest), rest)

  -- the variable whose `$` stands at the front (rule 8)
  unfoldable pub variable_at : Reading Syntax Part
  variable_at cs =
      if begins open_brace (tail cs) then (do
        close ← at_variable_brace (tail (tail cs))
        Ok (var (stretch size cs (tail close)) (stretch size (tail (tail cs)) close), tail close))
      else named cs (tail cs) (after_name false (tail cs))

  -- the bracket whose `[` stands at the front (rule 7)
  abbrev pub bracket_at : Reading Syntax Part
  bracket_at cs = do
    close ← inner.bracket (tail cs)
    Ok (bracket (stretch size cs (tail close)) (stretch size (tail cs) close), tail close)

  -- the piece of a kind that begins here
  abbrev pub piece_of : Mode → Kind → Reading Syntax (Option Part)
  piece_of m kind.Ends cs = Ok (None, cs)
  piece_of m kind.Open cs = Err (fault_at_end m)
  piece_of m kind.Backslashed cs =
      let rest = drop (escape_of cs).1 cs in Ok (Some (escape (stretch size cs rest) (escape_of cs).0), rest)
  piece_of m kind.Opening cs = do
    found ← bracket_at cs
    Ok (Some found.0, found.1)
  piece_of m kind.Variable cs = do
    found ← variable_at cs
    Ok (Some found.0, found.1)
  piece_of m kind.Plain cs =
      let rest = after_plain m cs in Ok (Some (text (stretch size cs rest)), rest)

  -- the next piece, or none where the word ends
  unfoldable pub piece_at : Mode → Reading Syntax (Option Part)
  piece_at m cs = piece_of m (kind_of m cs) cs

  unfoldable pub pieces_at : Mode → Reading Syntax (List Part)
  pieces_at m cs = all_turns (piece_at m) cs

  -- from the first `"` of a quoted word to behind its last
  unfoldable pub quoted_at : Reading Syntax (List Part)
  quoted_at cs = do
    found ← pieces_at mode.Quoted (tail cs)
    Ok (found.0, tail found.1)

  -- the word of a form that begins here
  abbrev pub word_of : Bool → Bool → Form → Reading Syntax Shape
  word_of nested expands form.Braced cs = do
    found ← braced_at size cs
    closed AfterBrace nested (record { form = form.Braced; expands = expands; pieces = found.0 }) found.1
  word_of nested expands form.Quoted cs = do
    found ← quoted_at cs
    closed AfterQuote nested (record { form = form.Quoted; expands = expands; pieces = found.0 }) found.1
  word_of nested expands form.Bare cs = do
    found ← pieces_at (mode.Bare nested) cs
    Ok (record { form = form.Bare; expands = expands; pieces = found.0 }, found.1)

  -- the bracket or the variable that begins here, as the one piece of a word
  abbrev pub lone_at : Reading Syntax Shape
  lone_at cs = do
    found ← if begins open_bracket cs then bracket_at cs else variable_at cs
    Ok (record { form = form.Bare; expands = false; pieces = found.0 ∷ [] }, found.1)

  -- The operand of an expression that begins here, whatever follows it: a braced or a quoted word, a bracket or a
  -- variable (expr(n), Operands).
  unfoldable pub operand_at : Reading Syntax Shape
  operand_at cs =
      if begins open_brace cs then (do
        found ← braced_at size cs
        Ok (record { form = form.Braced; expands = false; pieces = found.0 }, found.1))
      else if begins quote cs then (do
        found ← quoted_at cs
        Ok (record { form = form.Quoted; expands = false; pieces = found.0 }, found.1))
      else lone_at cs

  unfoldable pub word_at : Bool → Reading Syntax Shape
  word_at nested cs =
      if marked nested cs then (let rest = tail (tail (tail cs)) in word_of nested true (form_of rest) rest)
      else word_of nested false (form_of cs) cs

  -- the next word, or none where the command ends
  unfoldable pub next_word : Bool → Reading Syntax (Option Shape)
  next_word nested cs =
      let rest = after_blanks cs in
      if ends_word nested rest then Ok (None, rest) else (do
        word ← word_at nested rest
        Ok (Some word.0, word.1))

  unfoldable pub words_at : Bool → Reading Syntax (List Shape)
  words_at nested cs = all_turns (next_word nested) cs

  -- The first command, or none where only separators and comments are left (rules 1 and 3).
  unfoldable pub first_at : Bool → Reading Syntax (Option (List Shape))
  first_at nested cs =
      let rest = after_gaps gap.Between cs in
      if ends_word nested rest then Ok (None, rest) else (do
        words ← words_at nested rest
        Ok (Some words.0, after_command words.1))

  -- the commands up to the end of the text, or inside brackets up to `]`
  unfoldable pub commands_at : Bool → Reading Syntax (List (List Shape))
  commands_at nested cs = all_turns (first_at nested) cs

  unfoldable pub after_commands : Bool → List ℕ → Result (List ℕ) Syntax
  after_commands nested cs = commands_at nested cs >>= λ found. Ok found.1

-- the `]` of a bracket that holds these commands
abbrev pub closing : List ℕ → Result (List ℕ) Syntax
closing [] = Err MissingBracket
closing (c ∷ cs) = Ok (c ∷ cs)

-- the pieces of an index, and what follows its `)`
abbrev pub index_of : List Part × List ℕ → Parts × List ℕ
index_of found = (parts_of found.0, tail found.1)

-- How what nests is read, where brackets and indices may still stand in one another this deep.
unfoldable pub inner_at : ℕ → ℕ → Inner
inner_at size zero = record { bracket = λ cs. Err TooDeep; index = λ cs. Err TooDeep }
inner_at size (suc levels) = record {
  bracket = λ cs. after_commands size (inner_at size levels) true cs >>= closing;
  index = λ cs. pieces_at size (inner_at size levels) mode.Index cs >>= λ found. Ok (index_of found);
}
