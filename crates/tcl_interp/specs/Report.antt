-- What a whole run reports.
use Rattle.std.specs.Prelude.{◌≡◌, ℕ, Bool, List, Option, Some, None}
use Rattle.tcl_pages.specs.Texts.{Text}
use Rattle.tcl_meaning.specs.Agreement.{IsPart}
use Rattle.tcl_meaning.specs.Completions.{Completion}
use Rattle.tcl_meaning.specs.Effects.{Got}
use Rattle.tcl_meaning.specs.State.{Channels}
use Rattle.tcl_interp.specs.Interp.{Shows}
use Rattle.tcl_interp.specs.Outcome.{Ends, outcome_fails}
use Rattle.tcl_interp.specs.declared.host.Outcome.{Outcome}
use Rattle.tcl_interp.specs.declared.host.Outcome.TheVariants as outcome
use Rattle.tcl_interp.specs.declared.report.Report.{Report}

-- Channels whose outputs tell these bytes. Nothing is told of the input: how far it was read ahead isn't promised.
pub record Over (out err : Option (List ℕ)) (P : Channels → Type 0) : Type 0 where
  pub left : Option Text
  pub met_end : Bool
  pub holds : P (record { input = left; met_end = met_end; out = out; err = err })

-- without an interpreter, memory was refused, and what was put out is a part of what the run puts out
pub record IsRefused (o : Outcome) (got : Got Completion) (out err : Option (List ℕ)) : Type 0 where
  pub memory : o ≡ outcome.Memory
  pub part : Over out err (λ c. IsPart c got)

-- with one, the outcome, its variables and commands and the outputs are the run's
pub record IsReported (o : Outcome) (interp : Shows) (got : Got Completion) (out err : Option (List ℕ)) : Type 0 where
  pub ends : Over out err (λ c. Ends o got (record { globals = interp.globals; commands = interp.commands; channels = c }))
  pub fails : interp.failed ≡ outcome_fails o

abbrev pub ReportsBy : Outcome → Option Shows → Got Completion → Option (List ℕ) → Option (List ℕ) → Type 0
ReportsBy o None got out err = IsRefused o got out err
ReportsBy o (Some interp) got out err = IsReported o interp got out err

abbrev pub Reports : Report → Got Completion → Option (List ℕ) → Option (List ℕ) → Type 0
Reports r got out err = ReportsBy r.outcome r.interp got out err
