-- The body that a switch(n) chooses, from its words.
use Rattle.std.specs.Prelude.{Bool, false, List, [], ◌∷◌, Option, Ok, Err}
use Rattle.tcl_chars.specs.Messages.{about}
use Rattle.tcl_chars.specs.Texts.{literal}
use Rattle.tcl_list.specs.Elements.{elements_of}
use Rattle.tcl_meaning.specs.Control.{switch_usage}
use Rattle.tcl_meaning.specs.Shapes.{switch_words, paired, last_checked, chosen}
use Rattle.tcl_pages.specs.Answers.{Answer, ◌>>=◌}
use Rattle.tcl_pages.specs.Texts.{Text}

-- are these pairs, and the last body one
abbrev pub checked : List Text → Answer (Unit {0})
checked ws = paired ws >>= last_checked

-- the whole shape is read before a pattern is chosen
abbrev pub body_among : Bool → Text → List Text → Answer (Option Text)
body_among globs t ws = do
  ps ← paired ws
  _ ← last_checked ps
  Ok (chosen globs t ps)

abbrev pub switch_form : {A : Type 0} → Answer A
switch_form = Err (about (literal "wrong # args: should be") switch_usage [])

-- behind the options
abbrev pub body_behind : Bool → List Text → Answer (Option Text)
body_behind globs (t ∷ list ∷ []) = elements_of list >>= body_among globs t
body_behind globs (t ∷ a ∷ b ∷ ws) = body_among globs t (a ∷ b ∷ ws)
body_behind globs _ = switch_form

abbrev pub switch_body : List Text → Answer (Option Text)
switch_body ws = do
  s ← switch_words false ws
  body_behind s.globs s.words
