-- Patterns (string(n), string match; lsearch(n), -glob).
use Rattle.std.specs.Prelude.{◌≡◌, ◌≢◌, ℕ, zero, suc, Bool, true, false, nat_le, length, ◌==◌, ◌&&◌, ◌||◌, List, [], ◌∷◌, ◌++◌, ◌↔◌, if◌then◌else◌}
use Rattle.tcl_chars.specs.Characters.{star, backslash, open_bracket, close_bracket}
use Rattle.tcl_chars.specs.Place.{before, tail}
use Rattle.tcl_pages.specs.Texts.{Text}

abbrev pub question : ℕ
question = 63

abbrev pub dash : ℕ
dash = 45

-- is c between x and y, in whichever order they stand
abbrev pub is_between : ℕ → ℕ → ℕ → Bool
is_between x y c = (nat_le x c && nat_le c y) || (nat_le y c && nat_le c x)

-- Is c in a set? From the left `x-y` is a range, in either order, and any other character stands for itself.
abbrev pub in_set : Text → ℕ → Bool
in_set [] c = false
in_set (x ∷ []) c = x == c
in_set (x ∷ d ∷ []) c = (x == c) || (d == c)
in_set (x ∷ d ∷ y ∷ set) c = if d == dash then is_between x y c || in_set set c else (x == c) || in_set (d ∷ y ∷ set) c

-- what a pattern has left at its next `]`
abbrev pub to_bracket : Text → Text
to_bracket [] = []
to_bracket (c ∷ cs) = if c == close_bracket then c ∷ cs else to_bracket cs

-- what one part of a pattern but `*` takes of a text: one character, of these
pub data One : Type 0 where
  any : One
  just : ℕ → One
  one_of : Text → One

abbrev pub takes : One → ℕ → Bool
takes any c = true
takes (just d) c = d == c
takes (one_of set) c = in_set set c

-- a backslash and the character behind it, which stands for itself; at the end the backslash does
abbrev pub escaped_part : Text → One × Text
escaped_part [] = (just backslash, [])
escaped_part (c ∷ cs) = (just c, cs)

-- The first part of a pattern that doesn't begin with `*`, and the pattern behind it. A set goes up to the next `]`, or to
-- the pattern's end.
abbrev pub first_part : ℕ → Text → One × Text
first_part p ps =
    if p == question then (any, ps) else (
    if p == open_bracket then (one_of (before ps (to_bracket ps)), tail (to_bracket ps)) else (
    if p == backslash then escaped_part ps else (just p, ps)))

-- A text matches a pattern: `*` is any text, and another part one character that it takes.
pub data Matches : Text → Text → Type 0 where
  nothing : Matches [] []
  any_text : (ps front rest : Text) → Matches ps rest → Matches (star ∷ ps) (front ++ rest)
  one : (p c : ℕ) (ps rest : Text) → p ≢ star → takes (first_part p ps).0 c ≡ true → Matches (first_part p ps).1 rest → Matches (p ∷ ps) (c ∷ rest)

-- ---- whether it does

-- does the text, or what is left of it behind some characters, pass the test
abbrev pub some_rest : (Text → Bool) → Text → Bool
some_rest test [] = test []
some_rest test (c ∷ cs) = test (c ∷ cs) || some_rest test cs

abbrev pub one_taken : One → (Text → Bool) → Text → Bool
one_taken part test [] = false
one_taken part test (c ∷ cs) = takes part c && test cs

-- at most n parts
abbrev pub glob_within : ℕ → Text → Text → Bool
glob_within n [] [] = true
glob_within n [] (c ∷ cs) = false
glob_within zero (p ∷ ps) t = false
glob_within (suc n) (p ∷ ps) t =
    if p == star then some_rest (glob_within n ps) t else one_taken (first_part p ps).0 (glob_within n (first_part p ps).1) t

-- does the text match the pattern
unfoldable pub glob : Text → Text → Bool
glob pattern t = glob_within (length pattern) pattern t

-- The test is right: there is a match just where it says so.
abbrev pub GlobIsMatch : Type 0
GlobIsMatch = (pattern t : Text) → Matches pattern t ↔ (glob pattern t ≡ true)
