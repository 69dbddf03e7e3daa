-- The words of an if(n), from the left: conditions with their bodies, and the body at the end.
use Rattle.std.specs.Prelude.{ℕ, Bool, false, List, [], ◌∷◌, Option, Some, None, if◌then◌else◌}
use Rattle.tcl_chars.specs.Texts.{literal}
use Rattle.tcl_meaning.specs.Shapes.{is_word, with_clause}
use Rattle.tcl_meaning.specs.Tasks.{Others}
use Rattle.tcl_pages.specs.Texts.{Text}

-- how far behind its condition a body stands: a `then` may stand between
abbrev pub body_offset : List Text → ℕ
body_offset (condition ∷ w ∷ ws) = if is_word (literal "then") w then 2 else 1
body_offset _ = 1

-- a condition follows
abbrev pub goes_on : List Text → Bool
goes_on [] = false
goes_on (w ∷ ws) = is_word (literal "elseif") w

-- what stands last: one body, or nothing
abbrev pub one_body : List Text → Option (Option Text)
one_body (t ∷ []) = Some (Some t)
one_body _ = None

abbrev pub last_of : List Text → Option (Option Text)
last_of [] = Some None
last_of (w ∷ ws) = if is_word (literal "else") w then one_body ws else one_body (w ∷ ws)

abbrev pub with_last : List (Text × Text) → Option (Option Text) → Option Others
with_last clauses None = None
with_last clauses (Some otherwise) = Some (record { clauses = clauses; otherwise = otherwise })

-- clauses in front of others
abbrev pub with_clauses : List (Text × Text) → Option Others → Option Others
with_clauses [] others = others
with_clauses (c ∷ cs) others = with_clause c.0 c.1 (with_clauses cs others)
