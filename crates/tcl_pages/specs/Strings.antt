-- Commands on strings: string(n), split(n), join(n). In a dialect of numbers.
use Rattle.std.specs.Prelude.{◌≡◌, ◌≢◌, ◌≤◌, MatchOption, ℕ, zero, suc, ◌+◌, ◌-◌, Bool, true, false, not, ◌||◌, ◌&&◌, ◌==◌, nat_le, nat_lt, ℤ, pos, negsuc, ◌+ℤ◌, int_lt, List, [], ◌∷◌, ◌++◌, take, drop, length, reverse, map as each, Option, Some, None, unwrap_or, Ok, Err, if◌then◌else◌}
use Rattle.std.specs.declared.cmp.Ordering.{Ordering}
use Rattle.std.specs.declared.cmp.Ordering.TheVariants.{Less, Equal, Greater}
use Rattle.tcl_chars.specs.Classes.{is_list_space}
use Rattle.tcl_chars.specs.Index.{clamp}
use Rattle.tcl_chars.specs.Messages.{number}
use Rattle.tcl_chars.specs.Texts.{literal, by_code_point}
use Rattle.tcl_chars.specs.Truth.{is_beginning}
use Rattle.tcl_chars.specs.declared.numbers.Dialect.{Dialect}
use Rattle.tcl_list.specs.Elements.{elements_of}
use Rattle.tcl_list.specs.Written.{written}
use Rattle.tcl_pages.specs.Answers.{Answer, ◌>>=◌}
use Rattle.tcl_pages.specs.Arguments.{one_argument, two_arguments, three_arguments, one_or_two, two_or_three, three_or_four}
use Rattle.tcl_pages.specs.Dictionaries.{pairs_else}
use Rattle.tcl_pages.specs.Glob.{glob}
use Rattle.tcl_pages.specs.Lists.{index}
use Rattle.tcl_pages.specs.Results.{truth_text}
use Rattle.tcl_pages.specs.Texts.{Text, same_text, count_text}

-- ---- string compare, equal, length, match, reverse

abbrev pub order_text : Ordering → Text
order_text Less = literal "-1"
order_text Equal = literal "0"
order_text Greater = literal "1"

-- string compare string1 string2: by code point
abbrev pub string_compare : List Text → Answer Text
string_compare ws = do
  w ← two_arguments (literal "string compare string1 string2") ws
  Ok (order_text (by_code_point w.0 w.1))

-- string equal string1 string2
abbrev pub string_equal : List Text → Answer Text
string_equal ws = do
  w ← two_arguments (literal "string equal string1 string2") ws
  Ok (truth_text (same_text w.0 w.1))

-- string length string
abbrev pub string_length : List Text → Answer Text
string_length ws = do
  t ← one_argument (literal "string length string") ws
  Ok (count_text (length t))

-- string match pattern string
abbrev pub string_match : List Text → Answer Text
string_match ws = do
  w ← two_arguments (literal "string match pattern string") ws
  Ok (truth_text (glob w.0 w.1))

-- string reverse string
abbrev pub string_reverse : List Text → Answer Text
string_reverse ws = do
  t ← one_argument (literal "string reverse string") ws
  Ok (reverse t)

-- ---- string tolower, toupper: letters of ASCII

abbrev pub lowered : ℕ → ℕ
lowered c = if nat_le 65 c && nat_le c 90 then c + 32 else c

abbrev pub raised : ℕ → ℕ
raised c = if nat_le 97 c && nat_le c 122 then c - 32 else c

-- string tolower string, string toupper string
abbrev pub string_tolower : List Text → Answer Text
string_tolower ws = do
  t ← one_argument (literal "string tolower string") ws
  Ok (each lowered t)

abbrev pub string_toupper : List Text → Answer Text
string_toupper ws = do
  t ← one_argument (literal "string toupper string") ws
  Ok (each raised t)

-- ---- string first, last: places of a text in another

-- the places where a needle stands, the haystack's first being k
abbrev pub places_of : Text → ℕ → Text → List ℕ
places_of needle k [] = []
places_of needle k (c ∷ cs) = if is_beginning needle (c ∷ cs) then k ∷ places_of needle (suc k) cs else places_of needle (suc k) cs

-- An empty needle stands nowhere.
abbrev pub found_at : Text → Text → List ℕ
found_at [] haystack = []
found_at (c ∷ cs) haystack = places_of (c ∷ cs) 0 haystack

-- the first of them that isn't before a place, and the last at which the needle ends not behind one
abbrev pub is_before : ℕ → ℤ → Bool
is_before k (pos n) = nat_lt k n
is_before k (negsuc n) = false

abbrev pub first_from : ℤ → List ℕ → Option ℕ
first_from start [] = None
first_from start (k ∷ ks) = if is_before k start then first_from start ks else Some k

abbrev pub ends_by : ℕ → ℤ → ℕ → Bool
ends_by size (pos n) k = nat_le (k + size) (suc n)
ends_by size (negsuc n) k = false

abbrev pub last_until : ℕ → ℤ → Option ℕ → List ℕ → Option ℕ
last_until size end found [] = found
last_until size end found (k ∷ ks) = last_until size end (if ends_by size end k then Some k else found) ks

abbrev pub place_text : Option ℕ → Text
place_text None = literal "-1"
place_text (Some k) = count_text k

-- ---- string map

abbrev pub unbalanced : Text
unbalanced = literal "char map list unbalanced"

-- an empty key begins no text
abbrev pub key_begins : Text → Text → Bool
key_begins [] t = false
key_begins (k ∷ ks) t = is_beginning (k ∷ ks) t

-- the first pair whose key begins the text
abbrev pub pair_for : List (Text × Text) → Text → Option (Text × Text)
pair_for [] t = None
pair_for (p ∷ ps) t = if key_begins p.0 t then Some p else pair_for ps t

-- what stands for the next character, and how many characters behind it are of the same key
abbrev pub said_for : Option (Text × Text) → ℕ → Text
said_for None c = c ∷ []
said_for (Some p) c = p.1

abbrev pub key_rest : Option (Text × Text) → ℕ
key_rest None = 0
key_rest (Some p) = length p.0 - 1

-- one pass from the left, in which so many characters are passed over first
abbrev pub mapped : List (Text × Text) → ℕ → Text → Text
mapped ps skip [] = []
mapped ps zero (c ∷ cs) = said_for (pair_for ps (c ∷ cs)) c ++ mapped ps (key_rest (pair_for ps (c ∷ cs))) cs
mapped ps (suc skip) (c ∷ cs) = mapped ps skip cs

-- string map mapping string
abbrev pub string_map : List Text → Answer Text
string_map ws = do
  w ← two_arguments (literal "string map mapping string") ws
  es ← elements_of w.0
  ps ← pairs_else unbalanced es
  Ok (mapped ps 0 w.1)

-- ---- string trim, trimleft, trimright

-- is c one of these characters
abbrev pub is_among : Text → ℕ → Bool
is_among [] c = false
is_among (d ∷ ds) c = (d == c) || is_among ds c

abbrev pub trimmed_left : (ℕ → Bool) → Text → Text
trimmed_left goes [] = []
trimmed_left goes (c ∷ cs) = if goes c then trimmed_left goes cs else c ∷ cs

abbrev pub trimmed_right : (ℕ → Bool) → Text → Text
trimmed_right goes t = reverse (trimmed_left goes (reverse t))

abbrev pub trimmed_both : (ℕ → Bool) → Text → Text
trimmed_both goes t = trimmed_right goes (trimmed_left goes t)

-- what is taken off: list space where no characters are given
abbrev pub taken_off : Option Text → ℕ → Bool
taken_off None c = is_list_space c
taken_off (Some set) c = is_among set c

-- NAME string ?chars?
abbrev pub trim_by : ((ℕ → Bool) → Text → Text) → Text → List Text → Answer Text
trim_by trim u ws = do
  w ← one_or_two u ws
  Ok (trim (taken_off w.1) w.0)

-- ---- split, join

abbrev pub onto_first : ℕ → List Text → List Text
onto_first c [] = (c ∷ []) ∷ []
onto_first c (t ∷ ts) = (c ∷ t) ∷ ts

-- the parts between separators
abbrev pub parts_between : (ℕ → Bool) → Text → List Text
parts_between splits [] = [] ∷ []
parts_between splits (c ∷ cs) = if splits c then [] ∷ parts_between splits cs else onto_first c (parts_between splits cs)

-- An empty string has no parts, and an empty set of characters splits it into its characters.
abbrev pub split_by : Text → Text → List Text
split_by [] set = []
split_by (c ∷ cs) [] = each (λ d. d ∷ []) (c ∷ cs)
split_by (c ∷ cs) (d ∷ ds) = parts_between (is_among (d ∷ ds)) (c ∷ cs)

-- space, tab, newline and carriage return where no characters are given
abbrev pub separators : Option Text → Text
separators None = literal " \t\n\r"
separators (Some set) = set

-- split string ?splitChars?
abbrev pub split_page : List Text → Answer Text
split_page ws = do
  w ← one_or_two (literal "split string ?splitChars?") ws
  Ok (written (split_by w.0 (separators w.1)))

abbrev pub joined_behind : Text → List Text → Text
joined_behind between [] = []
joined_behind between (t ∷ ts) = between ++ (t ++ joined_behind between ts)

abbrev pub joined_by : Text → List Text → Text
joined_by between [] = []
joined_by between (t ∷ ts) = t ++ joined_behind between ts

-- one space where nothing is given
abbrev pub between_of : Option Text → Text
between_of None = literal " "
between_of (Some between) = between

-- join list ?joinString?
abbrev pub join_page : List Text → Answer Text
join_page ws = do
  w ← one_or_two (literal "join list ?joinString?") ws
  es ← elements_of w.0
  Ok (joined_by (between_of w.1) es)

-- ---- string index, range, replace, repeat: characters by their places

abbrev pub at_place : Text → ℤ → Text
at_place t (pos k) = take 1 (drop k t)
at_place t (negsuc k) = []

-- the characters from the place `first` on, in front of the place `behind`
abbrev pub part_of : Text → ℕ → ℕ → Text
part_of t first behind = drop first (take behind t)

-- first is above last, first is past the end, or last is below 0
abbrev pub replaces_nothing : ℕ → ℤ → ℤ → Bool
replaces_nothing size first last = int_lt last first || (not (int_lt first (pos size)) || int_lt last (pos 0))

-- from the place `first` to the place `last`, those outside being the nearest one, stands `new`
abbrev pub replaced_text : Text → ℤ → ℤ → Text → Text
replaced_text t first last new =
    if replaces_nothing (length t) first last then t
    else take (clamp first (length t)) t ++ (new ++ drop (clamp (last +ℤ pos 1) (length t)) t)

abbrev pub repeated_text : ℕ → Text → Text
repeated_text zero t = []
repeated_text (suc n) t = t ++ repeated_text n t

abbrev pub times_text : ℤ → Text → Text
times_text (pos n) t = repeated_text n t
times_text (negsuc n) t = []

module _ (dialect : Dialect) where
  -- where a search begins, and what it may end at: the first and the last character where no index is given
  abbrev pub start_of : Option Text → ℕ → Answer ℤ
  start_of None n = Ok (pos 0)
  start_of (Some i) n = index dialect i n

  abbrev pub end_of : Option Text → ℕ → Answer ℤ
  end_of None n = Ok (pos n)
  end_of (Some i) n = index dialect i n

  -- string first needleString haystackString ?startIndex?
  abbrev pub string_first : List Text → Answer Text
  string_first ws = do
    w ← two_or_three (literal "string first needleString haystackString ?startIndex?") ws
    start ← start_of w.2 (length w.1)
    Ok (place_text (first_from start (found_at w.0 w.1)))

  -- string last needleString haystackString ?lastIndex?
  abbrev pub string_last : List Text → Answer Text
  string_last ws = do
    w ← two_or_three (literal "string last needleString haystackString ?lastIndex?") ws
    end ← end_of w.2 (length w.1)
    Ok (place_text (last_until (length w.0) end None (found_at w.0 w.1)))

  -- string index string charIndex: outside there is nothing
  abbrev pub string_index : List Text → Answer Text
  string_index ws = do
    w ← two_arguments (literal "string index string charIndex") ws
    k ← index dialect w.1 (length w.0)
    Ok (at_place w.0 k)

  -- string range string first last
  abbrev pub string_range : List Text → Answer Text
  string_range ws = do
    w ← three_arguments (literal "string range string first last") ws
    first ← index dialect w.1 (length w.0)
    last ← index dialect w.2 (length w.0)
    Ok (part_of w.0 (clamp first (length w.0)) (clamp (last +ℤ pos 1) (length w.0)))

  -- string replace string first last ?string?
  abbrev pub string_replace : List Text → Answer Text
  string_replace ws = do
    w ← three_or_four (literal "string replace string first last ?string?") ws
    first ← index dialect w.1 (length w.0)
    last ← index dialect w.2 (length w.0)
    Ok (replaced_text w.0 first last (unwrap_or w.3 []))

  -- string repeat string count: a count below 0 is as 0
  abbrev pub string_repeat : List Text → Answer Text
  string_repeat ws = do
    w ← two_arguments (literal "string repeat string count") ws
    n ← number dialect w.1
    Ok (times_text n w.0)

-- ---- laws

-- the needle stands at the place k
pub record StandsAt (needle t : Text) (k : ℕ) : Type 0 where
  pub front : Text
  pub rest : Text
  pub joined : t ≡ front ++ (needle ++ rest)
  pub place : length front ≡ k

-- The first place is the least at which the needle stands and that isn't before the start.
abbrev pub FirstIsLeast : Type 0
FirstIsLeast = (needle t : Text) (start : ℤ) → length needle ≢ 0
    → MatchOption (first_from start (found_at needle t)) ((j : ℕ) → StandsAt needle t j → is_before j start ≡ true)
    (λ k. StandsAt needle t k × (is_before k start ≡ false) × ((j : ℕ) → StandsAt needle t j → is_before j start ≡ false → k ≤ j))
