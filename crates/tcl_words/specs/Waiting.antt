-- A text that grows: where its reading stands, from which the commands are read on when more of it has come.
use Rattle.std.specs.Prelude.{◌≡◌, ℕ, ◌-◌, Bool, true, false, not, ◌&&◌, ◌||◌, ◌==◌, List, [], ◌∷◌, ◌++◌, Result, Ok, Err, if◌then◌else◌}
use Rattle.std.specs.Str.{chars}
use Rattle.std.specs.String.{string_bytes}
use Rattle.tcl_chars.specs.Characters.{newline, backslash, dollar, colon, open_brace, quote}
use Rattle.tcl_chars.specs.Place.{begins, tail}
use Rattle.tcl_chars.specs.Reading.{◌>>=◌}
use Rattle.tcl_words.specs.declared.fault.Syntax.{Syntax}
use Rattle.tcl_words.specs.declared.fault.Syntax.TheVariants.{AfterBrace, AfterQuote}
use Rattle.tcl_words.specs.declared.front.Mode.{Mode}
use Rattle.tcl_words.specs.declared.front.Mode.TheVariants as mode
use Rattle.tcl_words.specs.declared.moves.At.{At}
use Rattle.tcl_words.specs.declared.moves.At.TheVariants as place
use Rattle.tcl_words.specs.declared.moves.Move.{Move}
use Rattle.tcl_words.specs.declared.moves.Move.TheVariants as move
use Rattle.tcl_words.specs.declared.waiting.Turn.{Turn}
use Rattle.tcl_words.specs.declared.waiting.Turn.TheVariants as turn
use Rattle.tcl_words.specs.declared.moves.Verdict.{Verdict}
use Rattle.tcl_words.specs.declared.moves.Verdict.TheVariants as verdict
use Rattle.tcl_words.specs.declared.waiting.Waiting.{Waiting}
use Rattle.tcl_words.specs.Complete.{ends_hidden, ends_open}
use Rattle.tcl_words.specs.First.{most_levels}
use Rattle.tcl_words.specs.Words.{ends_word, at_brace, after_command, pieces_at, words_at, after_commands, closing, inner_at}

-- ---- where the end of a text is near

-- Nothing, a colon or a backslash may be read otherwise where the text goes on.
abbrev pub is_firm : List ℕ → Bool
is_firm [] = false
is_firm (c ∷ []) = not (c == colon || c == backslash)
is_firm (c ∷ d ∷ cs) = true

-- the end of the text is not so near that what begins at c hangs on what follows
abbrev pub is_settled : ℕ → List ℕ → Bool
is_settled c [] = not (c == backslash || c == dollar)
is_settled c (d ∷ []) = not (c == dollar && d == colon)
is_settled c (d ∷ e ∷ t) = true

-- ---- how a text is read on

-- a script: how deep brackets may still stand in it, whether it stands in one, and what comes of the text behind its commands
pub record Script : Type 0 where
  pub levels : ℕ
  pub nested : Bool
  pub next : List ℕ → Result (List ℕ) Syntax

-- the mode of a word of a script
abbrev pub mode_in : Bool → Bool → Mode
mode_in nested true = mode.Quoted
mode_in nested false = mode.Bare nested

module _ (size : ℕ) where
  -- what comes of a text from between commands on
  abbrev pub commands_then : Script → List ℕ → Result (List ℕ) Syntax
  commands_then s cs = after_commands size (inner_at size s.levels) s.nested cs >>= s.next

  -- from between words on
  abbrev pub words_then : Script → List ℕ → Result (List ℕ) Syntax
  words_then s cs = words_at size (inner_at size s.levels) s.nested cs >>= λ found. commands_then s (after_command found.1)

  -- behind what closes a word, which only a separator may follow
  abbrev pub behind : Syntax → Script → List ℕ → Result (List ℕ) Syntax
  behind m s rest = if ends_word s.nested rest then words_then s rest else Err m

  -- from where a word's pieces end; is it quoted?
  abbrev pub word_ends : Bool → Script → List ℕ → Result (List ℕ) Syntax
  word_ends true s rest = behind AfterQuote s (tail rest)
  word_ends false s rest = words_then s rest

  -- from between the pieces of a word on
  abbrev pub pieces_then : Bool → Script → List ℕ → Result (List ℕ) Syntax
  pieces_then quoted s cs = pieces_at size (inner_at size s.levels) (mode_in s.nested quoted) cs >>= λ found. word_ends quoted s found.1

  -- from inside a braced word on
  abbrev pub braces_then : Bool → ℕ → Script → List ℕ → Result (List ℕ) Syntax
  braces_then hidden depth s cs = at_brace hidden depth cs >>= λ close. behind AfterBrace s (tail close)

  -- from the first character of a word on, behind its mark
  abbrev pub form_then : Script → List ℕ → Result (List ℕ) Syntax
  form_then s cs = if begins open_brace cs then braces_then false 0 s (tail cs) else if begins quote cs then pieces_then true s (tail cs) else pieces_then false s cs

  unfoldable pub at_then : At → Script → List ℕ → Result (List ℕ) Syntax
  at_then place.Commands s cs = commands_then s cs
  at_then place.Words s cs = words_then s cs
  at_then (place.Pieces quoted) s cs = pieces_then quoted s cs
  at_then (place.Braces hidden depth) s cs = braces_then hidden depth s cs

  -- the script of a bracket in a word
  abbrev pub in_bracket : Bool → Script → Script
  in_bracket quoted s = record { levels = s.levels - 1; nested = true; next = λ rest. closing rest >>= λ close. pieces_then quoted s (tail close) }

  -- the script in brackets that stand in one another, each in a word that is quoted or not
  unfoldable pub script_in : Script → List Bool → Script
  script_in s [] = s
  script_in s (q ∷ qs) = script_in (in_bracket q s) qs

  abbrev pub whole : Script
  whole = record { levels = most_levels; nested = false; next = λ rest. Ok rest }

  -- what comes of a text from there on, in these brackets
  abbrev pub in_then : List Bool → At → List ℕ → Result (List ℕ) Syntax
  in_then outer at cs = at_then at (script_in whole outer) cs

-- ---- one move of the reading

-- Is this the move that reads the front of a text? It is so however the text goes on.
abbrev pub Moves : ℕ → Bool → At → List ℕ → Move → Type 0
Moves levels nested at cs (move.Goes then_ rest) =
    (size : ℕ) (s : Script) (y : List ℕ) → s.levels ≡ levels → s.nested ≡ nested → at_then size at s (cs ++ y) ≡ at_then size then_ s (chars rest.now ++ y)
Moves levels nested at cs (move.Opens quoted rest) = (levels ≡ 0 → ⊥) ×
    ((size : ℕ) (s : Script) (y : List ℕ) → s.levels ≡ levels → s.nested ≡ nested → at_then size at s (cs ++ y) ≡ at_then size place.Commands (in_bracket size quoted s) (chars rest.now ++ y))
Moves levels nested at cs (move.Closes rest) =
    (size : ℕ) (s : Script) (quoted : Bool) (y : List ℕ) → nested ≡ true → at_then size at (in_bracket size quoted s) (cs ++ y) ≡ at_then size (place.Pieces quoted) s (chars rest.now ++ y)
Moves levels nested at cs move.Ends = (size : ℕ) (s : Script) → s.nested ≡ nested → at_then size at s cs ≡ s.next []
Moves levels nested at cs move.Open = (size : ℕ) (s : Script) → s.nested ≡ nested → ends_open (at_then size at s cs) ≡ true
Moves levels nested at cs move.Unknown = Unit {0}

-- From the first character of a word on, without its mark: the move that its form asks for.
abbrev pub Forms : List ℕ → Move → Type 0
Forms cs (move.Goes then_ rest) = (size : ℕ) (s : Script) (y : List ℕ) → form_then size s (cs ++ y) ≡ at_then size then_ s (chars rest.now ++ y)
Forms cs (move.Opens quoted rest) = ⊥
Forms cs (move.Closes rest) = ⊥
Forms cs move.Ends = ⊥
Forms cs move.Open = ⊥
Forms cs move.Unknown = Unit {0}

-- From behind what closes a word on.
abbrev pub Behind : Bool → List ℕ → Move → Type 0
Behind nested cs (move.Goes then_ rest) = (size : ℕ) (s : Script) (m : Syntax) (y : List ℕ) → s.nested ≡ nested → behind size m s (cs ++ y) ≡ at_then size then_ s (chars rest.now ++ y)
Behind nested cs (move.Opens quoted rest) = ⊥
Behind nested cs (move.Closes rest) = ⊥
Behind nested cs move.Ends = ⊥
Behind nested cs move.Open = ⊥
Behind nested cs move.Unknown = Unit {0}

-- something is left
abbrev pub has_more : List ℕ → Bool
has_more [] = false
has_more (c ∷ cs) = true

-- From where the pieces of a word end.
abbrev pub Ended : Bool → Bool → List ℕ → Move → Type 0
Ended nested quoted cs (move.Goes then_ rest) = (has_more cs ≡ true) ×
    ((size : ℕ) (s : Script) (y : List ℕ) → s.nested ≡ nested → word_ends size quoted s (cs ++ y) ≡ at_then size then_ s (chars rest.now ++ y))
Ended nested quoted cs (move.Opens marked rest) = ⊥
Ended nested quoted cs (move.Closes rest) = ⊥
Ended nested quoted cs move.Ends = ⊥
Ended nested quoted cs move.Open = ⊥
Ended nested quoted cs move.Unknown = Unit {0}

-- what is known of the text at its end
abbrev pub Judges : List Bool → At → List ℕ → Verdict → Type 0
Judges outer at cs verdict.Whole = (size : ℕ) → ends_open (in_then size outer at cs) ≡ false
Judges outer at cs verdict.Open = (size : ℕ) → ends_open (in_then size outer at cs) ≡ true
Judges outer at cs verdict.Unknown = Unit {0}

-- Where a text ends between commands, a bracket is open, or nothing is.
abbrev pub end_verdict : Bool → Verdict
end_verdict true = verdict.Open
end_verdict false = verdict.Whole

-- In these brackets and then in those the text is read alike, however it goes on.
abbrev pub Alike : List Bool → At → List ℕ → List Bool → At → List ℕ → Type 0
Alike outer at cs outer' at' cs' = (size : ℕ) (y : List ℕ) → in_then size outer at (cs ++ y) ≡ in_then size outer' at' (cs' ++ y)

abbrev pub Turned : List Bool → At → List ℕ → List Bool → Turn → Type 0
Turned outer at cs outer' (turn.Goes then_ rest) = Alike outer at cs outer' then_ (chars rest.now)
Turned outer at cs outer' (turn.Stops v) = (outer' ≡ outer) × Judges outer at cs v

-- ---- a text that waits for more

-- of what stands before a text and in it: does it end in an odd run of backslashes, and in a newline behind one?
abbrev pub hiding : Bool → Bool → List ℕ → Bool × Bool
hiding odd hidden [] = (odd, hidden)
hiding odd hidden (c ∷ cs) = hiding (c == backslash && not odd) (odd && c == newline) cs

-- What this text goes on with is read on from there, whatever it is, behind what is left of the text.
pub record Awaits (w : Waiting) (cs : List ℕ) : Type 0 where
  pub reads : (size : ℕ) (z : List ℕ) → after_commands size (inner_at size most_levels) false (cs ++ z) ≡ in_then size w.outer.items w.at (chars (string_bytes w.left) ++ z)
  pub hides : (z : List ℕ) → ends_hidden false false (cs ++ z) ≡ ends_hidden w.odd w.hidden z

-- the text is one that waits and a line behind it
pub record IsBehind (w : Waiting) (line text : List ℕ) : Type 0 where
  pub front : List ℕ
  pub awaits : Awaits w front
  pub joined : text ≡ front ++ line
