-- Words that name a level, as they are read: uplevel(n), upvar(n).
use Rattle.std.specs.Prelude.{◌≡◌, ℕ, ◌≤◌, ◌^◌, Option, Some, None, Ok, Err, IfSome}
use Rattle.tcl_frames.specs.Levels.{level_of}
use Rattle.tcl_frames.specs.declared.level.Level.{Level}
use Rattle.tcl_meaning.specs.Frames as frames
use Rattle.tcl_meaning.specs.Procedures.{digits_number, level_word, bad_level}
use Rattle.tcl_pages.specs.Answers.{Answer}
use Rattle.tcl_pages.specs.Texts.{Text}

-- the number that digits write, or none where 63 bits don't hold it
abbrev pub ReadsNumber : Text → Option ℕ → Type 0
ReadsNumber t None = IfSome (digits_number t) (λ n. 2 ^ 63 ≤ n)
ReadsNumber t (Some n) = digits_number t ≡ Some n

-- a level that no frame has
abbrev pub IsHigh : frames.Level → Type 0
IsHigh (frames.up n) = 2 ^ 63 ≤ n
IsHigh (frames.at n) = 2 ^ 63 ≤ n

-- the level that a word names, or none where no frame has it
abbrev pub ReadsLevel : Text → Option Level → Type 0
ReadsLevel t None = IfSome (level_word t) IsHigh
ReadsLevel t (Some level) = level_word t ≡ Some (level_of level)

-- the level that a word is found to name, or what is said of the word
abbrev pub found_level : Text → Option Level → Answer frames.Level
found_level t None = Err (bad_level t)
found_level t (Some level) = Ok (level_of level)
