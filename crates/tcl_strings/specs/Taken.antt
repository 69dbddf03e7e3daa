-- What map of string(n) takes of a text's beginning, and where keys stand in a text.
use Rattle.std.specs.Prelude.{◌≡◌, List, ◌++◌, Option, Some, None, drop, length}
use Rattle.tcl_pages.specs.Strings.{mapped}
use Rattle.tcl_pages.specs.Texts.{Text}
use Rattle.tcl_strings.specs.Grouped.{Pair, Grouped}

-- what is written for a key that begins the text, and what follows the key
abbrev pub taken_by : Option (Text × Text) → Text → Option (Text × Text)
taken_by None t = None
taken_by (Some p) t = Some (p.1, drop (length p.0) t)

-- no key of the groups stands in the text
pub record HasNoKey (groups : List (List Pair)) (t : Text) : Type 0 where
  pub same : (ps : List Pair) → Grouped ps groups → mapped ps 0 t ≡ t

-- the text is this front as it stands, then a key for which this value is written, then what is behind
pub record HasKey (groups : List (List Pair)) (t front value behind : Text) : Type 0 where
  pub turns : (ps : List Pair) → Grouped ps groups → mapped ps 0 t ≡ front ++ (value ++ mapped ps 0 behind)

-- a text with another one behind it, in which values stand in place of the keys of the groups
pub record IsMappedBehind (groups : List (List Pair)) (old t new : Text) : Type 0 where
  pub written : (ps : List Pair) → Grouped ps groups → new ≡ old ++ mapped ps 0 t
