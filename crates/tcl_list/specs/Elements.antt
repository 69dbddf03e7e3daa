-- How a text is read as a list, from left to right (list(n), lindex(n)).
use Rattle.std.specs.Prelude.{ℕ, Bool, false, ◌==◌, List, [], ◌∷◌, drop, Option, Some, None, Result, Ok, Err, if◌then◌else◌}
use Rattle.tcl_chars.specs.Characters.{backslash, quote, open_brace}
use Rattle.tcl_chars.specs.Classes.{is_list_space}
use Rattle.tcl_chars.specs.Escape.{escape}
use Rattle.tcl_chars.specs.Place.{before, tail}
use Rattle.tcl_chars.specs.Reading.{◌>>=◌, Reading, all_turns}
use Rattle.tcl_chars.specs.Whole.{skip_space}
use Rattle.tcl_list.specs.Braces.{to_close}
use Rattle.tcl_list.specs.Faults.{unmatched_brace, unmatched_quote, followed_by}
use Rattle.tcl_list.specs.declared.reading.End.{End}
use Rattle.tcl_list.specs.declared.reading.End.TheVariants.{Space, Quote}
use Rattle.tcl_list.specs.declared.reading.Closed.{Closed}
use Rattle.tcl_list.specs.declared.reading.Closed.TheVariants as closed

-- A reading of a list's part: its fault is a text.
abbrev pub Part : Type 0 → Type 0
Part A = Reading (List ℕ) A

-- what ends an element that is read character by character
abbrev pub ends : End → ℕ → Bool
ends Space c = is_list_space c
ends Quote c = c == quote

-- The next character that an element says, backslashes substituted (Tcl(n), rule 9), or none where the element ends.
abbrev pub letter : End → Part (Option ℕ)
letter end [] = Ok (None, [])
letter end (c ∷ cs) =
    if ends end c then Ok (None, c ∷ cs) else (
    if c == backslash then Ok (Some (escape (c ∷ cs)).0, drop (escape (c ∷ cs)).1 (c ∷ cs)) else Ok (Some c, cs))

unfoldable pub letters : End → Part (List ℕ)
letters end cs = all_turns (letter end) cs

-- the characters up to list space
abbrev pub up_to_space : List ℕ → List ℕ
up_to_space [] = []
up_to_space (c ∷ cs) = if is_list_space c then [] else c ∷ up_to_space cs

-- behind the brace or quote that closes the element e, list space or the end must follow
abbrev pub followed : Closed → List ℕ → Part (List ℕ)
followed close e [] = Ok (e, [])
followed close e (c ∷ cs) = if is_list_space c then Ok (e, c ∷ cs) else Err (followed_by close (up_to_space (c ∷ cs)))

-- behind the characters e of a quoted element
abbrev pub unquoted : List ℕ → Part (List ℕ)
unquoted e [] = Err unmatched_quote
unquoted e (q ∷ cs) = followed closed.Quote e cs

-- behind an opening quote
unfoldable pub quoted : Part (List ℕ)
quoted cs = letters Quote cs >>= λ x. unquoted x.0 x.1

abbrev pub unbraced : List ℕ → Option (List ℕ) → Result (List ℕ × List ℕ) (List ℕ)
unbraced cs None = Err unmatched_brace
unbraced cs (Some rest) = followed closed.Brace (before cs rest) (tail rest)

-- behind an opening brace: what stands before the brace that matches is taken as it is
unfoldable pub braced : Part (List ℕ)
braced cs = unbraced cs (to_close false 0 cs)

-- the element that begins with the character c
abbrev pub element : ℕ → Part (List ℕ)
element c cs = if c == open_brace then braced cs else (if c == quote then quoted cs else letters Space (c ∷ cs))

abbrev pub first_element : Part (Option (List ℕ))
first_element [] = Ok (None, [])
first_element (c ∷ cs) = element c cs >>= λ x. Ok (Some x.0, x.1)

-- the next element, if there is one
unfoldable pub next_element : Part (Option (List ℕ))
next_element cs = first_element (skip_space cs)

-- the elements of a text, or the text of its first fault from the left
unfoldable pub elements_of : List ℕ → Result (List (List ℕ)) (List ℕ)
elements_of cs = all_turns next_element cs >>= λ x. Ok x.0
