-- The commands of variables: set(n), unset(n), lassign(n), array(n); and the routes of those whose answer is a function of texts,
-- or of texts and what scripts keep. In a dialect of numbers.
use Rattle.std.specs.Prelude.{List, [], ◌∷◌, length, Option, Some, None, Result, Ok, Err, Bool, if◌then◌else◌}
use Rattle.tcl_chars.specs.declared.numbers.Dialect.{Dialect}
use Rattle.tcl_chars.specs.Texts.{literal}
use Rattle.tcl_list.specs.Elements.{elements_of}
use Rattle.tcl_pages.specs.Lists.{values_for, rest_behind}
use Rattle.tcl_meaning.specs.Pure.{pure}
use Rattle.tcl_pages.specs.Texts.{Text, same_text}
use Rattle.tcl_pages.specs.Updates.{Old, begins, is_read, must_be_there, update_words, old_of, updated}
use Rattle.tcl_pages.specs.declared.pages.PurePage.{PurePage}
use Rattle.tcl_pages.specs.declared.pages.UpdatePage.{UpdatePage}
use Rattle.tcl_meaning.specs.declared.page.SeenPage.{SeenPage}
use Rattle.tcl_meaning.specs.declared.refusal.Refusal.{Refusal}
use Rattle.tcl_meaning.specs.declared.refusal.Refusal.TheVariants.{NoSuch, NoElement, IsArray, IsntArray}
use Rattle.tcl_meaning.specs.Arrays.{array_set, array_unset}
use Rattle.tcl_meaning.specs.Asking.{Asks, done, usage}
use Rattle.tcl_meaning.specs.Completions.{normal, nothing}
use Rattle.tcl_meaning.specs.Effects.{Plain}
use Rattle.tcl_meaning.specs.SeenPages.{seen_answer}
use Rattle.tcl_meaning.specs.State.{Change}
use Rattle.tcl_meaning.specs.Value.{Value, ◌>>=◌, give, fail, judged, look, make}
use Rattle.tcl_meaning.specs.Variables.{get, remove_change, read, set, set_all, unset, cant_read, cant_set}

-- ---- set

-- set varName ?newValue?
unfoldable pub set_page : List Text → Asks
set_page (name ∷ []) = do
  t ← read name
  done (normal t)
set_page (name ∷ t ∷ []) = do
  _ ← set name t
  done (normal t)
set_page _ = usage (literal "set varName ?newValue?")

-- ---- unset: the names from left to right

abbrev pub unset_all : List Text → Asks
unset_all [] = done nothing
unset_all (name ∷ names) = do
  _ ← unset name
  unset_all names

-- with `-nocomplain` what can't be unset is passed over
abbrev pub make_if : Result Change Refusal → Plain (Value (Unit {0}))
make_if (Ok ch) = make ch
make_if (Err refusal) = give tt

abbrev pub unset_if : List Text → Asks
unset_if [] = done nothing
unset_if (name ∷ names) = do
  s ← look
  _ ← make_if (remove_change s name)
  unset_if names

-- behind `--` stand names alone
abbrev pub behind_dashes : List Text → List Text
behind_dashes [] = []
behind_dashes (w ∷ ws) = if same_text w (literal "--") then ws else w ∷ ws

-- unset ?-nocomplain? ?--? ?varName ...?
unfoldable pub unset_page : List Text → Asks
unset_page [] = done nothing
unset_page (w ∷ ws) = if same_text w (literal "-nocomplain") then unset_if (behind_dashes ws) else unset_all (behind_dashes (w ∷ ws))

-- ---- lassign

-- lassign list ?varName ...?
unfoldable pub lassign_page : List Text → Asks
lassign_page (list ∷ names) = do
  es ← judged (elements_of list)
  _ ← set_all names (values_for (length names) es)
  done (normal (rest_behind (length names) es))
lassign_page [] = usage (literal "lassign list ?varName ...?")

-- ---- array

-- array set arrayName list
unfoldable pub array_set_page : List Text → Asks
array_set_page (name ∷ list ∷ []) = do
  s ← look
  ch ← judged (array_set s name list)
  _ ← make ch
  done nothing
array_set_page _ = usage (literal "array set arrayName list")

abbrev pub make_some : Option Change → Plain (Value (Unit {0}))
make_some None = give tt
make_some (Some ch) = make ch

abbrev pub unset_elements : Text → Option Text → Asks
unset_elements name pattern = do
  s ← look
  _ ← make_some (array_unset s name pattern)
  done nothing

-- array unset arrayName ?pattern?
unfoldable pub array_unset_page : List Text → Asks
array_unset_page (name ∷ []) = unset_elements name None
array_unset_page (name ∷ pattern ∷ []) = unset_elements name (Some pattern)
array_unset_page _ = usage (literal "array unset arrayName ?pattern?")

-- ---- routes

-- A command that looks at what scripts keep.
unfoldable pub seen_page : SeenPage → List Text → Asks
seen_page p ws = do
  s ← look
  t ← judged (seen_answer p s ws)
  done (normal t)

-- the text that a variable has, or the one from which its new text is made
abbrev pub old_text : Old → Text → Result Text Refusal → Plain (Value Text)
old_text old name (Ok t) = give t
old_text (begins first) name (Err NoSuch) = give first
old_text (begins first) name (Err NoElement) = give first
old_text (begins first) name (Err IsArray) = fail (cant_set name IsArray)
old_text (begins first) name (Err IsntArray) = fail (cant_set name IsntArray)
old_text is_read name (Err refusal) = fail (cant_read name refusal)
old_text must_be_there name (Err NoSuch) = fail (cant_read name NoSuch)
old_text must_be_there name (Err NoElement) = fail (cant_read name NoElement)
old_text must_be_there name (Err IsArray) = fail (cant_set name IsArray)
old_text must_be_there name (Err IsntArray) = fail (cant_set name IsntArray)

module _ (dialect : Dialect) where
  -- A command whose answer its words alone decide.
  unfoldable pub pure_page : PurePage → List Text → Asks
  pure_page p ws = do
    t ← judged (pure dialect p ws)
    done (normal t)

  -- A command that gives a variable a text made of the one that it has.
  unfoldable pub update_page : UpdatePage → List Text → Asks
  update_page p ws = do
    w ← judged (update_words p ws)
    s ← look
    old ← old_text (old_of p w.words) w.name (get s w.name)
    new ← judged (updated dialect p old w.words)
    _ ← set w.name new
    done (normal new)
