-- Characters that stand for themselves, wherever they stand in a list.
use Rattle.std.specs.Prelude.{ℕ, Bool, not, ◌||◌, ◌==◌}
use Rattle.tcl_chars.specs.Characters.{number_sign}
use Rattle.tcl_chars.specs.Classes.{is_list_space}
use Rattle.tcl_list.specs.Written.{is_special}

abbrev pub is_plain : ℕ → Bool
is_plain c = not (is_list_space c || is_special c || (c == number_sign))
