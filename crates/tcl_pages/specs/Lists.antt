-- Commands on lists: list(n), llength(n), lreverse(n), concat(n), lindex(n), lrange(n), linsert(n), lreplace(n), lrepeat(n),
-- lassign(n), lset(n), lappend(n). In a dialect of numbers.
use Rattle.std.specs.Prelude.{ℕ, zero, suc, ◌+◌, max, ℤ, pos, negsuc, ◌+ℤ◌, nat_le, nat_lt, List, [], ◌∷◌, ◌++◌, take, drop, get_or, length, reverse, replicate, Result, Ok, Err, if◌then◌else◌}
use Rattle.tcl_chars.specs.Characters.{backslash}
use Rattle.tcl_chars.specs.Index.{place_of, clamp}
use Rattle.tcl_chars.specs.Messages.{number, position, about}
use Rattle.tcl_chars.specs.Place.{begins}
use Rattle.tcl_chars.specs.Texts.{literal}
use Rattle.tcl_chars.specs.Whole.{skip_space, trim_end}
use Rattle.tcl_chars.specs.declared.numbers.Dialect.{Dialect}
use Rattle.tcl_list.specs.Elements.{elements_of}
use Rattle.tcl_list.specs.Written.{written}
use Rattle.tcl_pages.specs.Answers.{Answer, ◌>>=◌}
use Rattle.tcl_pages.specs.Texts.{Text, count_text, spaced}
use Rattle.tcl_pages.specs.Usage.{usage}

-- ---- list, llength, lreverse

-- llength list
abbrev pub llength : List Text → Answer Text
llength (list ∷ []) = do
  es ← elements_of list
  Ok (count_text (length es))
llength _ = usage (literal "llength list")

-- lreverse list
abbrev pub lreverse : List Text → Answer Text
lreverse (list ∷ []) = do
  es ← elements_of list
  Ok (written (reverse es))
lreverse _ = usage (literal "lreverse list")

-- ---- concat

-- how much white space stays behind a text: one character behind a backslash
abbrev pub space_kept : Text → ℕ
space_kept t = if begins backslash (reverse t) then 1 else 0

-- without the other list space at its end
unfoldable pub trimmed_end : Text → Text
trimmed_end t = take (length (trim_end t) + space_kept (trim_end t)) t

abbrev pub trimmed : Text → Text
trimmed t = trimmed_end (skip_space t)

abbrev pub unless_empty : Text → List Text → List Text
unless_empty [] ts = ts
unless_empty (c ∷ cs) ts = (c ∷ cs) ∷ ts

-- each text trimmed, without those that are then empty
abbrev pub all_trimmed : List Text → List Text
all_trimmed [] = []
all_trimmed (t ∷ ts) = unless_empty (trimmed t) (all_trimmed ts)

-- concat ?arg ...?
abbrev pub concat : List Text → Text
concat ts = spaced (all_trimmed ts)

-- the words of a script or an expression: one is taken as it is
abbrev pub one_text : List Text → Text
one_text (t ∷ []) = t
one_text ts = concat ts

-- ---- places

-- the element at a place, and outside the empty text (lindex(n))
abbrev pub element_or_empty : List Text → ℤ → Text
element_or_empty es (pos k) = get_or es k []
element_or_empty es (negsuc k) = []

-- the indices that words give: one word is a list of them
abbrev pub indices_of : List Text → Answer (List Text)
indices_of [] = Ok []
indices_of (word ∷ []) = elements_of word
indices_of (word ∷ other ∷ words) = Ok (word ∷ other ∷ words)

-- Others in place of the elements from the place `first` on, in front of the place `behind`; where that is not behind `first`,
-- none are taken out.
abbrev pub replaced : List Text → ℕ → ℕ → List Text → List Text
replaced es first behind new = take first es ++ (new ++ drop (max first behind) es)

-- ---- lassign

-- for n names, the elements from the first on, and empty texts where those are too few
abbrev pub values_for : ℕ → List Text → List Text
values_for zero es = []
values_for (suc n) [] = [] ∷ values_for n []
values_for (suc n) (e ∷ es) = e ∷ values_for n es

-- what the command answers: the elements that no name takes
abbrev pub rest_behind : ℕ → List Text → Text
rest_behind n es = written (drop n es)

-- ---- lrepeat

-- the elements so many times
abbrev pub times : ℕ → List Text → List Text
times zero es = []
times (suc n) es = es ++ times n es

abbrev pub repeated : Text → ℤ → List Text → Answer Text
repeated count (pos n) es = Ok (written (times n es))
repeated count (negsuc n) es = Err (about (literal "bad count") count (literal ": must be integer >= 0"))

-- ---- lset

abbrev pub out_of_range : Text
out_of_range = literal "list index out of range"

-- with the element v at the place k, or behind the last
abbrev pub with_element : List Text → ℕ → Text → List Text
with_element es k v = take k es ++ v ∷ drop (k + 1) es

-- a place of an element, or the one behind the last
abbrev pub place_within : ℤ → ℕ → Answer ℕ
place_within (pos k) n = if nat_le k n then Ok k else Err out_of_range
place_within (negsuc k) n = Err out_of_range

module _ (dialect : Dialect) where
  -- a text as an index: a place among n elements, counted from the first
  abbrev pub index : Text → ℕ → Answer ℤ
  index t n = do
    place ← position dialect t
    Ok (place_of place n)

  -- ---- lindex

  -- each index goes into the element at the one before
  abbrev pub element_at : Text → List Text → Answer Text
  element_at list [] = Ok list
  element_at list (i ∷ is) = do
    es ← elements_of list
    place ← index i (length es)
    element_at (element_or_empty es place) is

  -- where the indices are a word that is no list, a list that is none either is the fault in front
  abbrev pub element_by : Text → Answer (List Text) → Answer Text
  element_by list (Ok indices) = element_at list indices
  element_by list (Err message) = do
    es ← elements_of list
    Err message

  -- lindex list ?index ...?
  abbrev pub lindex : List Text → Answer Text
  lindex [] = usage (literal "lindex list ?index ...?")
  lindex (list ∷ indices) = element_by list (indices_of indices)

  -- ---- lrange, linsert, lreplace

  -- lrange list first last
  abbrev pub lrange : List Text → Answer Text
  lrange (list ∷ first ∷ last ∷ []) = do
    es ← elements_of list
    first ← index first (length es)
    last ← index last (length es)
    Ok (written (drop (clamp first (length es)) (take (clamp (last +ℤ pos 1) (length es)) es)))
  lrange _ = usage (literal "lrange list first last")

  -- linsert list index ?element ...?, where `end` is behind the last element
  abbrev pub linsert : List Text → Answer Text
  linsert (list ∷ i ∷ new) = do
    es ← elements_of list
    place ← index i (length es + 1)
    Ok (written (replaced es (clamp place (length es)) (clamp place (length es)) new))
  linsert _ = usage (literal "linsert list index ?element ...?")

  -- lreplace list first last ?element ...?
  abbrev pub lreplace : List Text → Answer Text
  lreplace (list ∷ first ∷ last ∷ new) = do
    es ← elements_of list
    first ← index first (length es)
    last ← index last (length es)
    Ok (written (replaced es (clamp first (length es)) (clamp (last +ℤ pos 1) (length es)) new))
  lreplace _ = usage (literal "lreplace list first last ?element ...?")

  -- ---- lrepeat

  -- lrepeat count ?element ...?
  abbrev pub lrepeat : List Text → Answer Text
  lrepeat (count ∷ es) = do
    n ← number dialect count
    repeated count n es
  lrepeat [] = usage (literal "lrepeat count ?element ...?")

  -- ---- lset, lappend: the text of the variable, and what it becomes

  -- v at the place to which the indices lead, each in the element at the one before
  abbrev pub element_set : Text → List Text → Text → Answer Text
  element_set old [] v = Ok v
  element_set old (i ∷ is) v = do
    es ← elements_of old
    place ← index i (length es)
    k ← place_within place (length es)
    inner ← element_set (get_or es k []) is v
    Ok (written (with_element es k inner))

  abbrev pub set_by : Text → Answer (List Text) → Text → Answer Text
  set_by old (Ok indices) v = element_set old indices v
  set_by old (Err message) v = do
    es ← elements_of old
    Err message

  -- lset varName ?index ...? newValue: the variable's text, the indices and the new value
  abbrev pub lset : Text → List Text → Text → Answer Text
  lset old indices v = set_by old (indices_of indices) v

-- the list with more elements; without any it stays as it is
abbrev pub with_more : Text → List Text → List Text → Text
with_more old es [] = old
with_more old es (v ∷ vs) = written (es ++ v ∷ vs)

-- lappend varName ?value ...?
abbrev pub lappend : Text → List Text → Answer Text
lappend old values = do
  es ← elements_of old
  Ok (with_more old es values)
