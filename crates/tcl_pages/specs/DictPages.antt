-- Commands on dictionaries: dict(n). In a dialect of numbers.
use Rattle.std.specs.Prelude.{Bool, true, false, ◌||◌, List, [], ◌∷◌, ◌++◌, length, Option, Some, None, Ok, Err, if◌then◌else◌}
use Rattle.std.specs.List.{filter}
use Rattle.tcl_chars.specs.Messages.{about}
use Rattle.tcl_chars.specs.Texts.{literal}
use Rattle.tcl_chars.specs.declared.numbers.Dialect.{Dialect}
use Rattle.tcl_list.specs.Written.{written}
use Rattle.tcl_pages.specs.Answers.{Answer, ◌>>=◌}
use Rattle.tcl_pages.specs.Arguments.{one_argument, one_or_two}
use Rattle.tcl_pages.specs.Dictionaries.{Pairs, put_key, put_keys, in_pairs, pairs_of, keys_of, values_of}
use Rattle.tcl_pages.specs.Glob.{glob}
use Rattle.tcl_pages.specs.Lists.{lappend}
use Rattle.tcl_pages.specs.Results.{truth_text}
use Rattle.tcl_pages.specs.Texts.{Text, same_text, count_text}
use Rattle.tcl_pages.specs.Usage.{usage}
use Rattle.tcl_pages.specs.declared.pages.DictPage.{DictPage}
use Rattle.tcl_pages.specs.declared.pages.DictPage.TheVariants as page

-- ---- pairs

-- keys and values in turn
abbrev pub flat : Pairs → List Text
flat [] = []
flat (p ∷ ps) = p.0 ∷ p.1 ∷ flat ps

abbrev pub dictionary : Pairs → Text
dictionary ps = written (flat ps)

-- the value of a key
abbrev pub value_at : Text → Pairs → Option Text
value_at key [] = None
value_at key (p ∷ ps) = if same_text p.0 key then Some p.1 else value_at key ps

abbrev pub without_key : Text → Pairs → Pairs
without_key key [] = []
without_key key (p ∷ ps) = if same_text p.0 key then ps else p ∷ without_key key ps

abbrev pub without_keys : List Text → Pairs → Pairs
without_keys [] ps = ps
without_keys (k ∷ ks) ps = without_keys ks (without_key k ps)

abbrev pub unknown_key : Text → Text
unknown_key key = about (literal "key") key (literal " not known in dictionary")

abbrev pub known : Text → Option Text → Answer Text
known key None = Err (unknown_key key)
known key (Some t) = Ok t

-- the value of a key that must be there
abbrev pub inner_of : Text → Text → Answer Text
inner_of t key = do
  ps ← pairs_of t
  known key (value_at key ps)

-- each key is one of the dictionary under the one before
abbrev pub value_under : Text → List Text → Answer Text
value_under t [] = Ok t
value_under t (key ∷ keys) = do
  inner ← inner_of t key
  value_under inner keys

-- ---- the pages that name no variable

-- without a pattern each text passes
abbrev pub passes : Option Text → Text → Bool
passes None t = true
passes (Some pattern) t = glob pattern t

-- another count of words than pairs have is the usage's fault
abbrev pub pairs_or : Text → Answer Pairs → Answer Pairs
pairs_or u (Ok ps) = Ok ps
pairs_or u (Err message) = usage u

-- dict create ?key value ...?
abbrev pub dict_create : List Text → Answer Text
dict_create ws = do
  ps ← pairs_or (literal "dict create ?key value ...?") (in_pairs ws)
  Ok (dictionary (put_keys [] ps))

-- dict size dictionary
abbrev pub dict_size : List Text → Answer Text
dict_size ws = do
  t ← one_argument (literal "dict size dictionary") ws
  ps ← pairs_of t
  Ok (count_text (length ps))

-- a dictionary's pairs, and the pattern, if there is one
abbrev pub dictionary_and_pattern : Text → List Text → Answer (Pairs × Option Text)
dictionary_and_pattern u ws = do
  a ← one_or_two u ws
  ps ← pairs_of a.0
  Ok (ps, a.1)

-- dict keys dictionary ?pattern?, dict values dictionary ?pattern?
abbrev pub dict_keys : List Text → Answer Text
dict_keys ws = do
  a ← dictionary_and_pattern (literal "dict keys dictionary ?pattern?") ws
  Ok (written (filter (passes a.1) (keys_of a.0)))

abbrev pub dict_values : List Text → Answer Text
dict_values ws = do
  a ← dictionary_and_pattern (literal "dict values dictionary ?pattern?") ws
  Ok (written (filter (passes a.1) (values_of a.0)))

-- dict merge ?dictionary ...?
abbrev pub merged : Pairs → List Text → Answer Text
merged found [] = Ok (dictionary found)
merged found (t ∷ ts) = do
  ps ← pairs_of t
  merged (put_keys found ps) ts

-- dict remove dictionary ?key ...?
abbrev pub dict_remove : List Text → Answer Text
dict_remove (t ∷ keys) = do
  ps ← pairs_of t
  Ok (dictionary (without_keys keys ps))
dict_remove [] = usage (literal "dict remove dictionary ?key ...?")

-- dict replace dictionary ?key value ...?
abbrev pub replace_usage : Text
replace_usage = literal "dict replace dictionary ?key value ...?"

abbrev pub dict_replace : List Text → Answer Text
dict_replace (t ∷ ws) = do
  new ← pairs_or replace_usage (in_pairs ws)
  ps ← pairs_of t
  Ok (dictionary (put_keys ps new))
dict_replace [] = usage replace_usage

-- dict get dictionary ?key ...?: without a key all pairs
abbrev pub dict_get : List Text → Answer Text
dict_get (t ∷ []) = do
  ps ← pairs_of t
  Ok (dictionary ps)
dict_get (t ∷ key ∷ keys) = value_under t (key ∷ keys)
dict_get [] = usage (literal "dict get dictionary ?key ...?")

abbrev pub is_there : Answer Text → Bool
is_there (Ok t) = true
is_there (Err message) = false

-- dict exists dictionary key ?key ...?: no also where a level is no dictionary
abbrev pub dict_exists : List Text → Answer Text
dict_exists (t ∷ key ∷ keys) = Ok (truth_text (is_there (value_under t (key ∷ keys))))
dict_exists _ = usage (literal "dict exists dictionary key ?key ...?")

-- what a command answers, or its error, by the words behind its name
unfoldable pub dict_page : DictPage → List Text → Answer Text
dict_page page.Create ws = dict_create ws
dict_page page.Exists ws = dict_exists ws
dict_page page.Get ws = dict_get ws
dict_page page.Keys ws = dict_keys ws
dict_page page.Merge ws = merged [] ws
dict_page page.Remove ws = dict_remove ws
dict_page page.Replace ws = dict_replace ws
dict_page page.Size ws = dict_size ws
dict_page page.Values ws = dict_values ws

-- ---- what becomes of a variable's dictionary

abbrev pub or_text : Text → Option Text → Text
or_text first None = first
or_text first (Some t) = t

-- the value of a key, or the text first where the key isn't there
abbrev pub value_or : Text → Text → Text → Answer Text
value_or first t key = do
  ps ← pairs_of t
  Ok (or_text first (value_at key ps))

-- a value under the last of some keys: levels that are missing are made
abbrev pub dict_set : Text → Text → List Text → Answer Text
dict_set t value [] = Ok value
dict_set t value (key ∷ keys) = do
  ps ← pairs_of t
  inner ← dict_set (or_text [] (value_at key ps)) value keys
  Ok (dictionary (put_key ps key inner))

-- without the last of some keys, which may be missing; one before it may not
abbrev pub dict_unset : Text → List Text → Answer Text
dict_unset t [] = Ok t
dict_unset t (key ∷ []) = do
  ps ← pairs_of t
  Ok (dictionary (without_key key ps))
dict_unset t (key ∷ next ∷ keys) = do
  ps ← pairs_of t
  inner ← known key (value_at key ps)
  less ← dict_unset inner (next ∷ keys)
  Ok (dictionary (put_key ps key less))

-- with another text under a key, made of the one that is there
abbrev pub under_key : Text → Text → Text → (Text → Answer Text) → Answer Text
under_key t key first change = do
  ps ← pairs_of t
  new ← change (or_text first (value_at key ps))
  Ok (dictionary (put_key ps key new))

abbrev pub dict_lappend : Text → Text → List Text → Answer Text
dict_lappend t key values = under_key t key [] (λ old. lappend old values)
