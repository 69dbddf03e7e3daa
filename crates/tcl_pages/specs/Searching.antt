-- lsearch(n).
use Rattle.std.specs.Prelude.{ℕ, suc, Bool, true, false, not, List, [], ◌∷◌, map, Ok, if◌then◌else◌}
use Rattle.tcl_chars.specs.Texts.{literal, same_text}
use Rattle.tcl_list.specs.Elements.{elements_of}
use Rattle.tcl_list.specs.Written.{written}
use Rattle.tcl_pages.specs.Answers.{Answer, ◌>>=◌}
use Rattle.tcl_pages.specs.Glob.{glob}
use Rattle.tcl_pages.specs.Texts.{Text, count_text}
use Rattle.tcl_pages.specs.Usage.{usage, bad_option}
use Rattle.tcl_pages.specs.declared.lists.SearchOptions.{SearchOptions}

-- no option
abbrev pub plain_search : SearchOptions
plain_search = record { exact = false; all = false; inline = false; negated = false }

abbrev pub search_options : List Text
search_options = literal "-exact" ∷ literal "-glob" ∷ literal "-all" ∷ literal "-inline" ∷ literal "-not" ∷ []

-- Options, with those in front of them: of two that clash the later counts.
abbrev pub with_search_option : SearchOptions → Text → Answer SearchOptions
with_search_option o t =
    if same_text t (literal "-exact") then Ok (record o { exact = true }) else (
    if same_text t (literal "-glob") then Ok (record o { exact = false }) else (
    if same_text t (literal "-all") then Ok (record o { all = true }) else (
    if same_text t (literal "-inline") then Ok (record o { inline = true }) else (
    if same_text t (literal "-not") then Ok (record o { negated = true }) else bad_option t search_options))))

-- does the element fit the pattern
abbrev pub is_wanted : SearchOptions → Text → Text → Bool
is_wanted o pattern e =
    if o.negated then not (if o.exact then same_text pattern e else glob pattern e) else (
    if o.exact then same_text pattern e else glob pattern e)

-- the elements that fit, each behind its place; the first of es stands at the place n
abbrev pub wanted : SearchOptions → Text → ℕ → List Text → List (ℕ × Text)
wanted o pattern n [] = []
wanted o pattern n (e ∷ es) = if is_wanted o pattern e then (n, e) ∷ wanted o pattern (suc n) es else wanted o pattern (suc n) es

-- the place of the first one that fits, or -1; the element itself, or the empty text
abbrev pub first_found : Bool → List (ℕ × Text) → Text
first_found true [] = []
first_found true (f ∷ fs) = f.1
first_found false [] = literal "-1"
first_found false (f ∷ fs) = count_text f.0

abbrev pub hit_text : Bool → ℕ × Text → Text
hit_text true f = f.1
hit_text false f = count_text f.0

abbrev pub found : SearchOptions → List (ℕ × Text) → Text
found o fs = if o.all then written (map (hit_text o.inline) fs) else first_found o.inline fs

-- lsearch ?-option ...? list pattern: all words but the last two are options
abbrev pub search_with : SearchOptions → List Text → Answer Text
search_with o [] = usage (literal "lsearch ?-option ...? list pattern")
search_with o (t ∷ []) = usage (literal "lsearch ?-option ...? list pattern")
search_with o (list ∷ pattern ∷ []) = do
  es ← elements_of list
  Ok (found o (wanted o pattern 0 es))
search_with o (t ∷ u ∷ v ∷ ts) = do
  more ← with_search_option o t
  search_with more (u ∷ v ∷ ts)

abbrev pub lsearch : List Text → Answer Text
lsearch ts = search_with plain_search ts
