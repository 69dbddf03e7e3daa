-- Which texts are words and commands, said by their parts: one case for each form (Tcl(n), rules 1 to 12).
-- In each relation the text comes first, then what it spells, and last the rest: the text that is left behind it. What a
-- rule says of the character that follows is said of the rest. `size` is the size of the whole text, in bytes, from
-- which places are counted, and `levels` says how deep brackets and indices may still stand in one another.
use Rattle.std.specs.Prelude.{◌≡◌, ◌≢◌, ◌⊎◌, ℕ, suc, ◌+◌, ◌<◌, ◌≤◌, Bool, true, false, not, ◌&&◌, ◌||◌, ◌==◌, List, [], ◌∷◌, ◌++◌, length, take, drop, if◌then◌else◌}
use Rattle.tcl_chars.specs.Characters.{newline, space, backslash, semicolon, dollar, quote, open_brace, close_brace, open_paren, close_paren, open_bracket, close_bracket, number_sign, colon, star}
use Rattle.tcl_chars.specs.Classes.{is_word_space, is_name_char}
use Rattle.tcl_chars.specs.Escape.{blanks, escape as escape_of}
use Rattle.tcl_chars.specs.Place.{begins, tail, place}
use Rattle.tcl_words.specs.declared.word.Form.{Form}
use Rattle.tcl_words.specs.declared.word.Form.TheVariants.{Bare, Quoted, Braced}
use Rattle.tcl_words.specs.Parts.{Stretch, Part, text, escape, var, elem_, bracket, parts_of, Shape}

-- the stretch is the front of the text, before the rest
pub record Stands (size : ℕ) (cs : List ℕ) (s : Stretch) (rest : List ℕ) : Type 0 where
  pub start : s.start ≡ place size cs
  pub joined : cs ≡ s.text ++ rest

-- ---- between words and commands

-- a word ends before this: the end of the text, white space, a newline, `;`, a backslash-newline, and inside brackets `]`
abbrev pub ends_word : Bool → List ℕ → Bool
ends_word nested [] = true
ends_word nested (c ∷ cs) =
    is_word_space c || c == newline || c == semicolon || (nested && c == close_bracket) || (c == backslash && begins newline cs)

-- word space and backslash-newlines, which separate words (rule 3)
pub data Blanks : List ℕ → List ℕ → Type 0 where
  none : (rest : List ℕ) → Blanks rest rest
  white : (c : ℕ) (cs rest : List ℕ) → is_word_space c ≡ true → Blanks cs rest → Blanks (c ∷ cs) rest
  hidden_newline : (cs rest : List ℕ) → Blanks cs rest → Blanks (backslash ∷ newline ∷ cs) rest

-- A comment from behind its `#` (rule 10). A backslash and the character behind it are passed together. The first
-- newline not so passed ends it, or the end of the text does.
pub data Comment : List ℕ → List ℕ → Type 0 where
  at_newline : (rest : List ℕ) → Comment (newline ∷ rest) rest
  at_end : Comment [] []
  character : (c : ℕ) (cs rest : List ℕ) → c ≢ newline → c ≢ backslash → Comment cs rest → Comment (c ∷ cs) rest
  passed : (c : ℕ) (cs rest : List ℕ) → Comment cs rest → Comment (backslash ∷ c ∷ cs) rest
  last_backslash : Comment (backslash ∷ []) []

-- what may stand before a command: blanks, newlines, semicolons and comments (rules 1 and 10)
pub data Separators : List ℕ → List ℕ → Type 0 where
  none : (rest : List ℕ) → Separators rest rest
  separator : (c : ℕ) (cs rest : List ℕ) → (is_word_space c || c == newline || c == semicolon) ≡ true → Separators cs rest → Separators (c ∷ cs) rest
  hidden_newline : (cs rest : List ℕ) → Separators cs rest → Separators (backslash ∷ newline ∷ cs) rest
  comment : (cs after rest : List ℕ) → Comment cs after → Separators after rest → Separators (number_sign ∷ cs) rest

-- the end of a command: of the text, a newline or a semicolon, or inside brackets `]`, which belongs to the rest
pub data CommandEnd (nested : Bool) : List ℕ → List ℕ → Type 0 where
  at_end : CommandEnd nested [] []
  at_separator : (c : ℕ) (rest : List ℕ) → (c == newline || c == semicolon) ≡ true → CommandEnd nested (c ∷ rest) rest
  at_bracket : (rest : List ℕ) → nested ≡ true → CommandEnd nested (close_bracket ∷ rest) (close_bracket ∷ rest)

-- no command follows: the end of the text, or inside brackets `]`
abbrev pub ends_script : Bool → List ℕ → Bool
ends_script nested [] = true
ends_script nested (c ∷ cs) = nested && c == close_bracket

-- ---- names and characters

-- a name begins here: a letter, a digit, an underscore, or two colons (rule 8)
abbrev pub begins_name : List ℕ → Bool
begins_name [] = false
begins_name (c ∷ cs) = is_name_char c || (c == colon && begins colon cs)

-- letters, digits, underscores, and colons in runs of two or more; so many colons stand before the text
abbrev pub is_name : ℕ → List ℕ → Bool
is_name colons [] = not (colons == 1)
is_name colons (c ∷ cs) = if c == colon then is_name (colons + 1) cs else not (colons == 1) && is_name_char c && is_name 0 cs

-- the name is the longest front of the text that is one
pub record IsLongestName (cs name : List ℕ) : Type 0 where
  pub named : is_name 0 name ≡ true
  pub longest : (n : ℕ) → length name < n → n ≤ length cs → is_name 0 (take n cs) ≡ false

-- what follows a `$` makes a variable of it
abbrev pub begins_variable : List ℕ → Bool
begins_variable [] = false
begins_variable (c ∷ cs) = is_name_char c || (c == colon && begins colon cs) || c == open_brace || c == open_paren

-- The first character stands for itself: it ends nothing, and begins no escape, no bracket and no variable.
abbrev pub stands_for_itself : (List ℕ → Bool) → List ℕ → Bool
stands_for_itself ends [] = false
stands_for_itself ends (c ∷ cs) = not (ends (c ∷ cs)) && not (c == backslash) && not (c == open_bracket) && not (c == dollar && begins_variable cs)

-- plain characters, one or more, behind which none stands
pub data PlainRun (ends : List ℕ → Bool) : List ℕ → List ℕ → Type 0 where
  last : (c : ℕ) (rest : List ℕ) → stands_for_itself ends (c ∷ rest) ≡ true → stands_for_itself ends rest ≡ false → PlainRun ends (c ∷ rest) rest
  more : (c : ℕ) (cs rest : List ℕ) → stands_for_itself ends (c ∷ cs) ≡ true → PlainRun ends cs rest → PlainRun ends (c ∷ cs) rest

-- the character doesn't stand in the text
abbrev pub lacks : ℕ → List ℕ → Bool
lacks d [] = true
lacks d (c ∷ cs) = not (c == d) && lacks d cs

-- `{*}` stands at the front, and a word behind it (rule 5)
abbrev pub marked : Bool → List ℕ → Bool
marked nested cs =
    begins open_brace cs && begins star (tail cs) && begins close_brace (tail (tail cs)) && not (ends_word nested (tail (tail (tail cs))))

-- ---- braces

-- Braces match one another in the text, and a backslash hides the character behind it (rule 6).
pub data Balanced : List ℕ → Type 0 where
  nothing : Balanced []
  character : (c : ℕ) (cs : List ℕ) → c ≢ open_brace → c ≢ close_brace → c ≢ backslash → Balanced cs → Balanced (c ∷ cs)
  hidden : (c : ℕ) (cs : List ℕ) → Balanced cs → Balanced (backslash ∷ c ∷ cs)
  braces : (cs inside after : List ℕ) → cs ≡ inside ++ close_brace ∷ after → Balanced inside → Balanced after → Balanced (open_brace ∷ cs)

-- Inside braces: from the first backslash-newline on, or nothing. Of two backslashes and a newline none is one.
pub data UpToHidden : List ℕ → List ℕ → Type 0 where
  at_end : UpToHidden [] []
  at_newline : (cs : List ℕ) → UpToHidden (backslash ∷ newline ∷ cs) (backslash ∷ newline ∷ cs)
  character : (c : ℕ) (cs rest : List ℕ) → c ≢ backslash → UpToHidden cs rest → UpToHidden (c ∷ cs) rest
  hidden : (c : ℕ) (cs rest : List ℕ) → c ≢ newline → UpToHidden cs rest → UpToHidden (backslash ∷ c ∷ cs) rest
  last_backslash : UpToHidden (backslash ∷ []) []

-- a backslash-newline stands at the front
abbrev pub begins_hidden : List ℕ → Bool
begins_hidden [] = false
begins_hidden (c ∷ cs) = c == backslash && begins newline cs

-- The pieces of the text inside braces: it stands for itself, but a backslash-newline, with the spaces and tabs behind
-- it, is one space.
pub data Inside (size : ℕ) : List ℕ → List Part → Type 0 where
  nothing : Inside size [] []
  verbatim : (c : ℕ) (cs : List ℕ) (s : Stretch) (rest : List ℕ) (ps : List Part) → begins_hidden (c ∷ cs) ≡ false → UpToHidden (c ∷ cs) rest → Stands size (c ∷ cs) s rest
      → Inside size rest ps → Inside size (c ∷ cs) (text s ∷ ps)
  one_space : (cs : List ℕ) (s : Stretch) (ps : List Part) → Stands size (backslash ∷ newline ∷ cs) s (drop (blanks cs) cs)
      → Inside size (drop (blanks cs) cs) ps → Inside size (backslash ∷ newline ∷ cs) (escape s space ∷ ps)

-- ---- pieces, words and commands, which stand in one another

mutual
  -- A piece of a word, where `ends` says what ends the word.
  pub data Piece (size : ℕ) : ℕ → (List ℕ → Bool) → List ℕ → Part → List ℕ → Type 0 where
    -- characters that stand for themselves
    plain : (levels : ℕ) (ends : List ℕ → Bool) (cs : List ℕ) (s : Stretch) (rest : List ℕ) → PlainRun ends cs rest → Stands size cs s rest → Piece size levels ends cs (text s) rest
    -- an escape, the longest that the text allows (rule 9)
    escaped : (levels : ℕ) (ends : List ℕ → Bool) (cs : List ℕ) (s : Stretch) (rest : List ℕ) → rest ≡ drop (escape_of (backslash ∷ cs)).1 (backslash ∷ cs) → Stands size (backslash ∷ cs) s rest
        → Piece size levels ends (backslash ∷ cs) (escape s (escape_of (backslash ∷ cs)).0) rest
    -- `$name`, no index behind it (rule 8)
    variable : (levels : ℕ) (ends : List ℕ → Bool) (cs : List ℕ) (s name : Stretch) (rest : List ℕ) → begins_name cs ≡ true → IsLongestName cs name.text → begins open_paren rest ≡ false
        → Stands size cs name rest → Stands size (dollar ∷ cs) s rest → Piece size levels ends (dollar ∷ cs) (var s name) rest
    -- `${name}`, up to the next `}` (rule 8)
    braced_variable : (levels : ℕ) (ends : List ℕ → Bool) (cs : List ℕ) (s name : Stretch) (rest : List ℕ) → lacks close_brace name.text ≡ true
        → Stands size cs name (close_brace ∷ rest) → Stands size (dollar ∷ open_brace ∷ cs) s rest → Piece size levels ends (dollar ∷ open_brace ∷ cs) (var s name) rest
    -- `$name(index)`, the index up to the first `)` outside nested substitutions; the name may be empty (rule 8)
    element : (levels below : ℕ) (ends : List ℕ → Bool) (cs : List ℕ) (s name : Stretch) (index : List ℕ) (ps : List Part) (rest : List ℕ) → levels ≡ suc below → IsLongestName cs name.text
        → Stands size cs name (open_paren ∷ index) → Pieces size below (begins close_paren) index ps (close_paren ∷ rest) → Stands size (dollar ∷ cs) s rest
        → Piece size levels ends (dollar ∷ cs) (elem_ s name (parts_of ps)) rest
    -- `[script]` (rule 7)
    script : (levels below : ℕ) (ends : List ℕ → Bool) (cs : List ℕ) (s inside : Stretch) (commands : List (List Shape)) (rest : List ℕ) → levels ≡ suc below
        → Stands size cs inside (close_bracket ∷ rest) → Commands size below true cs commands (close_bracket ∷ rest) → Stands size (open_bracket ∷ cs) s rest
        → Piece size levels ends (open_bracket ∷ cs) (bracket s inside) rest

  -- pieces one behind another, up to what ends the word
  pub data Pieces (size : ℕ) : ℕ → (List ℕ → Bool) → List ℕ → List Part → List ℕ → Type 0 where
    done : (levels : ℕ) (ends : List ℕ → Bool) (rest : List ℕ) → ends rest ≡ true → Pieces size levels ends rest [] rest
    piece : (levels : ℕ) (ends : List ℕ → Bool) (cs : List ℕ) (p : Part) (after : List ℕ) (ps : List Part) (rest : List ℕ) → ends cs ≡ false → Piece size levels ends cs p after
        → Pieces size levels ends after ps rest → Pieces size levels ends cs (p ∷ ps) rest

  -- a word without its mark
  pub data Body (size : ℕ) : ℕ → Bool → List ℕ → Form → List Part → List ℕ → Type 0 where
    -- from `{` to the `}` that matches it (rule 6)
    braced : (levels : ℕ) (nested : Bool) (cs inside : List ℕ) (ps : List Part) (rest : List ℕ) → cs ≡ inside ++ close_brace ∷ rest → Balanced inside → Inside (place size (close_brace ∷ rest)) inside ps
        → Body size levels nested (open_brace ∷ cs) Braced ps rest
    -- from `"` to the next one outside nested substitutions (rule 4)
    quoted : (levels : ℕ) (nested : Bool) (cs : List ℕ) (ps : List Part) (rest : List ℕ) → Pieces size levels (begins quote) cs ps (quote ∷ rest) → Body size levels nested (quote ∷ cs) Quoted ps rest
    -- any other, up to what separates words
    bare : (levels : ℕ) (nested : Bool) (cs : List ℕ) (ps : List Part) (rest : List ℕ) → begins open_brace cs ≡ false → begins quote cs ≡ false → Pieces size levels (ends_word nested) cs ps rest
        → Body size levels nested cs Bare ps rest

  -- A word, which ends where one may. Before another word it may be marked by `{*}` (rule 5).
  pub data Word (size : ℕ) : ℕ → Bool → List ℕ → Shape → List ℕ → Type 0 where
    without_mark : (levels : ℕ) (nested : Bool) (cs : List ℕ) (f : Form) (ps : List Part) (rest : List ℕ) → Body size levels nested cs f ps rest → ends_word nested rest ≡ true
        → Word size levels nested cs (record { form = f; expands = false; pieces = ps }) rest
    behind_mark : (levels : ℕ) (nested : Bool) (cs : List ℕ) (f : Form) (ps : List Part) (rest : List ℕ) → ends_word nested cs ≡ false → Body size levels nested cs f ps rest → ends_word nested rest ≡ true
        → Word size levels nested (open_brace ∷ star ∷ close_brace ∷ cs) (record { form = f; expands = true; pieces = ps }) rest

  -- the words of a command, with blanks between them and behind the last
  pub data Words (size : ℕ) : ℕ → Bool → List ℕ → List Shape → List ℕ → Type 0 where
    blanks_alone : (levels : ℕ) (nested : Bool) (cs rest : List ℕ) → Blanks cs rest → Words size levels nested cs [] rest
    word : (levels : ℕ) (nested : Bool) (cs here : List ℕ) (w : Shape) (after : List ℕ) (ws : List Shape) (rest : List ℕ) → Blanks cs here → ends_word nested here ≡ false
        → Word size levels nested here w after → Words size levels nested after ws rest → Words size levels nested cs (w ∷ ws) rest

  -- A command: what may stand before it, its words, of which the first doesn't begin with `#`, and its end (rules 1 and 2).
  pub data Command (size : ℕ) : ℕ → Bool → List ℕ → List Shape → List ℕ → Type 0 where
    command : (levels : ℕ) (nested : Bool) (cs here : List ℕ) (ws : List Shape) (stop rest : List ℕ) → Separators cs here → begins number_sign here ≡ false → ends_word nested here ≡ false
        → Words size levels nested here ws stop → CommandEnd nested stop rest → Command size levels nested cs ws rest

  -- a script: its commands up to the end of the text, or inside brackets up to `]`
  pub data Commands (size : ℕ) : ℕ → Bool → List ℕ → List (List Shape) → List ℕ → Type 0 where
    separators_alone : (levels : ℕ) (nested : Bool) (cs rest : List ℕ) → Separators cs rest → ends_script nested rest ≡ true → Commands size levels nested cs [] rest
    next : (levels : ℕ) (nested : Bool) (cs : List ℕ) (ws : List Shape) (after : List ℕ) (wss : List (List Shape)) (rest : List ℕ) → Command size levels nested cs ws after
        → Commands size levels nested after wss rest → Commands size levels nested cs (ws ∷ wss) rest

-- separators and comments alone are left
pub record NoCommand (nested : Bool) (cs rest : List ℕ) : Type 0 where
  pub separators : Separators cs rest
  pub stops : ends_script nested rest ≡ true

-- the text begins with a command, or none is left
abbrev pub IsWellFormed : ℕ → ℕ → Bool → List ℕ → Type 0
IsWellFormed size levels nested cs = ((ws : List Shape) × (rest : List ℕ) × Command size levels nested cs ws rest) ⊎ ((rest : List ℕ) × NoCommand nested cs rest)

-- a bracket or a variable begins here
abbrev pub begins_substitution : List ℕ → Bool
begins_substitution [] = false
begins_substitution (c ∷ cs) = c == open_bracket || (c == dollar && begins_variable cs)

-- An operand of an expression, whatever follows it: a braced or a quoted word, or a bracket or a variable as the one
-- piece of a bare word (expr(n), Operands).
pub data OperandWord (size : ℕ) : ℕ → List ℕ → Shape → List ℕ → Type 0 where
  delimited : (levels : ℕ) (cs : List ℕ) (f : Form) (ps : List Part) (rest : List ℕ) → (begins open_brace cs || begins quote cs) ≡ true → Body size levels false cs f ps rest
      → OperandWord size levels cs (record { form = f; expands = false; pieces = ps }) rest
  substitution : (levels : ℕ) (ends : List ℕ → Bool) (cs : List ℕ) (p : Part) (rest : List ℕ) → begins_substitution cs ≡ true → Piece size levels ends cs p rest
      → OperandWord size levels cs (record { form = Bare; expands = false; pieces = p ∷ [] }) rest
