-- Names of variables and commands, as a script writes them: Tcl(n), rule 8; set(n); upvar(n).
use Rattle.std.specs.Prelude.{Bool, true, false, ◌&&◌, ◌==◌, [], ◌∷◌, if◌then◌else◌}
use Rattle.tcl_chars.specs.Characters.{colon, open_paren, close_paren}
use Rattle.tcl_chars.specs.Place.{begins, tail, before}
use Rattle.tcl_pages.specs.Texts.{Text}
use Rattle.tcl_meaning.specs.Frames.{Part, whole, element, deeper}

-- what follows the colons at the front
unfoldable pub after_colons : Text → Text
after_colons [] = []
after_colons (c ∷ cs) = if c == colon then after_colons cs else c ∷ cs

-- A leading run of two or more colons means the global variables, and in a command's name nothing; it is no part of the name.
abbrev pub is_global : Text → Bool
is_global cs = begins colon cs && begins colon (tail cs)

abbrev pub without_colons : Text → Text
without_colons cs = if is_global cs then after_colons cs else cs

-- from the first `(` on
unfoldable pub from_paren : Text → Text
from_paren [] = []
from_paren (c ∷ cs) = if c == open_paren then c ∷ cs else from_paren cs

-- the last character
unfoldable pub last_part : Text → Text
last_part [] = []
last_part (c ∷ []) = c ∷ []
last_part (c ∷ d ∷ cs) = last_part (d ∷ cs)

-- the name of a variable: of a global one or not, and of an element or not
pub record Name : Type 0 where
  pub global : Bool
  pub base : Text
  pub part : Part

abbrev pub whole_name : Text → Name
whole_name name = record { global = is_global name; base = without_colons name; part = whole }

abbrev pub element_name : Text → Text → Name
element_name base index = record { global = is_global base; base = without_colons base; part = element index }

abbrev pub by_paren : Text → Text → Name
by_paren name [] = whole_name name
by_paren name (c ∷ index) =
    if begins close_paren (last_part index) then element_name (before name (c ∷ index)) (before index (last_part index))
    else whole_name name

-- A name that ends in `)` and has a `(` is an element's, and the first `(` divides it.
unfoldable pub divided_name : Text → Name
divided_name name = by_paren name (from_paren name)

abbrev pub is_element : Part → Bool
is_element whole = false
is_element (element i) = true
is_element deeper = true
