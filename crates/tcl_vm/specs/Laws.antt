-- Laws of codes that run, and of machines that go on. In any dialect of numbers.
use Rattle.std.specs.Prelude.{◌≡◌, ◌≢◌, ℕ, ◌+◌, ◌≤◌, List}
use Rattle.tcl_chars.specs.declared.numbers.Dialect.{Dialect}
use Rattle.tcl_pages.specs.Texts.{Text}
use Rattle.tcl_meaning.specs.Agreement.{Agrees}
use Rattle.tcl_meaning.specs.Completions.{Completion, top}
use Rattle.tcl_meaning.specs.Effects.{Got, Gives, on_got}
use Rattle.tcl_meaning.specs.Run.{run_script}
use Rattle.tcl_meaning.specs.Script.{most_depth}
use Rattle.tcl_meaning.specs.State.{State, with_units}
use Rattle.tcl_code.specs.Instructions.{Instruction}
use Rattle.tcl_code.specs.Machine.{first_spot, Stuck, exec_code}
use Rattle.tcl_code.specs.Valid.{Valid}
use Rattle.tcl_vm.specs.Machines.{Begins}
use Rattle.tcl_vm.specs.Parts.{given, total, PausesIn, HasDone}
use Rattle.tcl_vm.specs.Turns.{Config, Fits, StandsBy}

-- Valid code is never stuck, whatever its commands do.
abbrev pub ValidGoesOn : Type 0
ValidGoesOn = (dialect : Dialect) (code : List Instruction) → Valid code → (d : ℕ) → d ≤ most_depth → (s : State) (k : ℕ) → exec_code dialect code k (first_spot d) s ≢ Stuck

-- For every list of parts: where a machine that begins with a script goes on part by part, each time until a unit is wanting, and then
-- once more, what it has done in all is what the script comes to with the units of all parts.
abbrev pub PartsAddUp : Type 0
PartsAddUp = (dialect : Dialect) (text : Text) (c d : Config) (parts : List ℕ) (last : ℕ) (real : Got Completion)
    → Begins dialect text 1 c → PausesIn dialect parts c d → HasDone dialect (given last d) real
    → Agrees (run_script dialect text (with_units (total parts + last) c.state)) (on_got real (λ e t. Gives (top e) t))

-- Whatever state it goes on from, with whatever units: a machine that fits comes to something, and to nothing else.
abbrev pub ComesToOne : Type 0
ComesToOne = (dialect : Dialect) (c : Config) → Fits c → (r : Got Completion) × StandsBy dialect c.turn c.machine c.state r × ((q : Got Completion) → StandsBy dialect c.turn c.machine c.state q → q ≡ r)
