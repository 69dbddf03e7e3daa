-- What a script takes from its input: gets(n), read(n), eof(n). What is taken stands in front of what is left: so input
-- only shrinks, whatever a program asks for.
use Rattle.std.specs.Prelude.{ℕ, suc, Bool, true, false, nat_lt, ◌==◌, [], ◌∷◌, length, take, drop, if◌then◌else◌}
use Rattle.tcl_chars.specs.Characters.{newline}
use Rattle.tcl_pages.specs.Texts.{Text}

-- a line with its newline, so many characters, or all that there is
pub data Want : Type 0 where
  a_line : Want
  so_many : ℕ → Want
  everything : Want

-- the characters up to and with the first newline
abbrev pub line_length : Text → ℕ
line_length [] = 0
line_length (c ∷ cs) = if c == newline then 1 else suc (line_length cs)

abbrev pub has_line : Text → Bool
has_line [] = false
has_line (c ∷ cs) = if c == newline then true else has_line cs

-- how many characters are taken; where there are fewer, all are
abbrev pub amount : Want → Text → ℕ
amount a_line cs = line_length cs
amount (so_many n) cs = n
amount everything cs = length cs

abbrev pub input_taken : Want → Text → Text
input_taken want cs = take (amount want cs) cs

abbrev pub left : Want → Text → Text
left want cs = drop (amount want cs) cs

-- A call that finds less than it asks for meets the end, and so does one that asks for all.
abbrev pub meets_end : Want → Text → Bool
meets_end a_line cs = if has_line cs then false else true
meets_end (so_many n) cs = nat_lt (length cs) n
meets_end everything cs = true
