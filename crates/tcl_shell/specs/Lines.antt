-- Lines on standard error.
use Rattle.std.specs.Prelude.{◌≡◌, ℕ, ◌⊎◌, List, ◌++◌, codes, Option, Some, None}
use Rattle.tcl_chan.specs.Devices.{put_behind, one_more}
use Rattle.tcl_chan.specs.Writing.{WroteFront}
use Rattle.tcl_shell.specs.declared.lines.Line.{Line}
use Rattle.tcl_shell.specs.declared.lines.Line.TheVariants as line

-- A device, and what it tells: its bytes, to come or written, if it tells them, and how many of its calls have failed.
pub record Told (D : Type 0) : Type 0 where
  pub device : D
  pub bytes : Option (List ℕ)
  pub failed : ℕ

abbrev pub told : {D : Type 0} → (D → Option (List ℕ)) → (D → ℕ) → D → Told D
told bytes failed_calls device = record { device = device; bytes = bytes device; failed = failed_calls device }

-- A text goes to an output: all of it, or a beginning of it where a write failed.
abbrev pub Said : {D : Type 0} → List ℕ → Told D → Told D → Type 0
Said text old new =
    ((new.bytes ≡ put_behind old.bytes text) × (new.failed ≡ old.failed)) ⊎ (WroteFront old.bytes new.bytes text × (new.failed ≡ one_more old.failed))

abbrev pub SaidIf : {D : Type 0} → Option (List ℕ) → Told D → Told D → Type 0
SaidIf None old new = new ≡ old
SaidIf (Some text) old new = Said text old new

-- the lines, with their newlines, in bytes

abbrev pub usage_line : List ℕ
usage_line = codes "usage: tclint ?-tcl9? ?-budget N? ?-slice N? ?file arg ...?\n"

abbrev pub unreadable : List ℕ → List ℕ
unreadable name = codes "couldn't read file \"" ++ (name ++ codes "\"\n")

abbrev pub not_utf8 : List ℕ → List ℕ
not_utf8 name = codes "file \"" ++ (name ++ codes "\" is not UTF-8\n")

abbrev pub message_line : List ℕ → List ℕ
message_line message = message ++ codes "\n"

abbrev pub budget_spent : List ℕ
budget_spent = codes "budget spent\n"

abbrev pub out_of_memory : List ℕ
out_of_memory = codes "out of memory\n"

abbrev pub broken : List ℕ
broken = codes "read or write failed\n"

abbrev pub line_bytes : Line → List ℕ
line_bytes line.Usage = usage_line
line_bytes (line.Unread name) = unreadable name.now
line_bytes (line.NotUtf8 name) = not_utf8 name.now
line_bytes (line.Message message) = message_line message.now
line_bytes line.Budget = budget_spent
line_bytes line.Memory = out_of_memory
line_bytes line.Broken = broken
