-- What a text says as an index (lindex(n), string(n)): a number, `end`, or one of them and a number added or taken off.
use Rattle.std.specs.Prelude.{ℕ, ◌^◌, Bool, false, ◌||◌, ◌==◌, nat_lt, List, [], ◌∷◌, if◌then◌else◌, Option, Some, None, min, ℤ, pos, negsuc, neg_ℤ, ◌+ℤ◌, ◌-ℤ◌}
use Rattle.tcl_chars.specs.Classes.{is_list_space}
use Rattle.tcl_chars.specs.Place.{before, tail}
use Rattle.tcl_chars.specs.Texts.{literal, same_text}
use Rattle.tcl_chars.specs.Whole.{magnitude, whole_of}
use Rattle.tcl_chars.specs.declared.indices.Index.{Index}
use Rattle.tcl_chars.specs.declared.indices.Index.TheVariants as index
use Rattle.tcl_chars.specs.declared.indices.Position.{Position}
use Rattle.tcl_chars.specs.declared.indices.Position.TheVariants.{Start, End}
use Rattle.tcl_chars.specs.declared.numbers.Dialect.{Dialect}
use Rattle.tcl_chars.specs.declared.numbers.Whole.{Whole}
use Rattle.tcl_chars.specs.declared.numbers.Whole.TheVariants as whole

-- the place of a position among `length` elements, counted from the first: any whole number
abbrev pub place_of : Position → ℕ → ℤ
place_of (Start number offset) length = number +ℤ offset
place_of (End offset) length = (pos length -ℤ pos 1) +ℤ offset

-- the place among them that is nearest, where what is counted stands between elements too
abbrev pub clamp : ℤ → ℕ → ℕ
clamp (pos n) length = min n length
clamp (negsuc n) length = 0

abbrev pub has_space : List ℕ → Bool
has_space [] = false
has_space (c ∷ cs) = is_list_space c || has_space cs

-- what cs has left at its first plus or minus
abbrev pub to_sign : List ℕ → List ℕ
to_sign [] = []
to_sign (c ∷ cs) = if (c == 43) || (c == 45) then c ∷ cs else to_sign cs

abbrev pub of_whole : Whole → Index
of_whole (whole.Number number) = index.At (Start number (pos 0))
of_whole whole.TooLarge = index.TooLarge
of_whole whole.Not = index.Not

-- what stands in front of a sign: `end`, or a number text without white space
abbrev pub base_of : Dialect → List ℕ → Index
base_of dialect cs = if same_text cs (literal "end") then index.At (End (pos 0)) else (if has_space cs then index.Not else of_whole (whole_of dialect cs))

-- what stands behind the sign: a number text without a sign of its own and without white space
abbrev pub signed_offset : Bool → Option ℕ → Whole
signed_offset minus None = whole.Not
signed_offset minus (Some n) = if nat_lt n (2 ^ 63) then whole.Number (if minus then neg_ℤ (pos n) else pos n) else whole.TooLarge

abbrev pub offset_of : Dialect → List ℕ → Whole
offset_of dialect [] = whole.Number (pos 0)
offset_of dialect (sign ∷ cs) = if has_space cs then whole.Not else signed_offset (sign == 45) (magnitude dialect cs)

abbrev pub moved : Position → ℤ → Position
moved (Start number none) offset = Start number offset
moved (End none) offset = End offset

-- A part that is no number makes no index, and otherwise a number that is too large makes one that is too large.
abbrev pub shifted : Index → Whole → Index
shifted index.Not offset = index.Not
shifted index.TooLarge whole.Not = index.Not
shifted index.TooLarge whole.TooLarge = index.TooLarge
shifted index.TooLarge (whole.Number n) = index.TooLarge
shifted (index.At position) whole.Not = index.Not
shifted (index.At position) whole.TooLarge = index.TooLarge
shifted (index.At position) (whole.Number n) = index.At (moved position n)

-- The sign of a sum stands behind the first character: a sign in front belongs to the number.
abbrev pub sum_of : Dialect → List ℕ → Index
sum_of dialect cs = shifted (base_of dialect (before cs (to_sign (tail cs)))) (offset_of dialect (to_sign (tail cs)))

-- a number alone, with list space round it; or a sum, or `end`
abbrev pub number_or_sum : Dialect → List ℕ → Whole → Index
number_or_sum dialect cs (whole.Number number) = index.At (Start number (pos 0))
number_or_sum dialect cs whole.TooLarge = index.TooLarge
number_or_sum dialect cs whole.Not = sum_of dialect cs

unfoldable pub index_of : Dialect → List ℕ → Index
index_of dialect cs = number_or_sum dialect cs (whole_of dialect cs)
