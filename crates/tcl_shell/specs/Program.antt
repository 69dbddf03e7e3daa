-- What the program does for its words and its file, and what it answers.
use Rattle.std.specs.Prelude.{◌≡◌, ℕ, zero, suc, ℤ, pos, negsuc, List, [], ◌∷◌, drop, map, Option, Some, None, option_map}
use Rattle.std.specs.Rc.{rc_str_bytes}
use Rattle.std.specs.Str.{chars, IsUtf8}
use Rattle.tcl_chan.specs.Characters.{input_chars}
use Rattle.tcl_chan.specs.Newlines.{joined_newlines}
use Rattle.tcl_channels.specs.Leaves.{Failures}
use Rattle.tcl_chars.specs.declared.numbers.Dialect.{Dialect}
use Rattle.tcl_meaning.specs.Completions.{Completion}
use Rattle.tcl_meaning.specs.Effects.{Got}
use Rattle.tcl_meaning.specs.Run.{first_channels, run_with_args}
use Rattle.tcl_meaning.specs.State.{Channels}
use Rattle.tcl_interp.specs.Channels.{RunCounted}
use Rattle.tcl_interp.specs.Outcome.{outcome_is_io}
use Rattle.tcl_interp.specs.Report.{Reports}
use Rattle.tcl_interp.specs.declared.host.Outcome.{Outcome}
use Rattle.tcl_interp.specs.declared.host.Outcome.TheVariants as outcome
use Rattle.tcl_interp.specs.declared.report.Report.{Report}
use Rattle.tcl_shell.specs.Ends.{Tells}
use Rattle.tcl_shell.specs.Session.{session}
use Rattle.tcl_shell.specs.declared.end.SessionEnd.{SessionEnd}
use Rattle.tcl_shell.specs.declared.end.SessionEnd.TheVariants as end
use Rattle.tcl_shell.specs.Lines.{Told, told, Said, SaidIf, usage_line, unreadable, not_utf8, message_line, budget_spent, out_of_memory, broken}
use Rattle.tcl_shell.specs.declared.words.Request.{Request}

-- ---- the devices

-- input, standard output and standard error
pub record Devices (R W E : Type 0) : Type 0 where
  pub input : Told R
  pub out : Told W
  pub err : Told E

-- devices, by what each tells of its bytes and of its failed calls
abbrev pub devices : {R W E : Type 0} → (R → Option (List ℕ)) → (R → ℕ) → (W → Option (List ℕ)) → (W → ℕ) → (E → Option (List ℕ)) → (E → ℕ) → R → W → E → Devices R W E
devices to_come input_failed out_written out_failed err_written err_failed reader out err =
    record { input = told to_come input_failed reader; out = told out_written out_failed out; err = told err_written err_failed err }

-- the channels with which a run begins over them
abbrev pub channels_at : {R W E : Type 0} → Devices R W E → Channels
channels_at d = first_channels (option_map input_chars d.input.bytes) d.out.bytes d.err.bytes

-- how many of their calls have failed
abbrev pub failures_told : {R W E : Type 0} → Devices R W E → Failures
failures_told d = record { input = d.input.failed; out = d.out.failed; err = d.err.failed }

-- ---- statuses and lines

-- the status of a return code
abbrev pub code_status : ℤ → ℕ
code_status (pos zero) = 0
code_status (pos (suc n)) = 1
code_status (negsuc n) = 1

abbrev pub status_of : Outcome → ℕ
status_of (outcome.Done code result options left) = code_status code
status_of outcome.Budget = 2
status_of (outcome.Exit status) = status
status_of outcome.Memory = 3
status_of outcome.Io = 4
status_of outcome.Failed = 4
status_of outcome.Over = 4

-- the line of an error with this message, where the status tells one
abbrev pub error_line : ℕ → List ℕ → Option (List ℕ)
error_line zero message = None
error_line (suc n) message = Some (message_line message)

-- the line on standard error that says why the status isn't 0
abbrev pub outcome_line : Outcome → Option (List ℕ)
outcome_line (outcome.Done code result options left) = error_line (code_status code) (rc_str_bytes result)
outcome_line outcome.Budget = Some budget_spent
outcome_line (outcome.Exit status) = None
outcome_line outcome.Memory = Some out_of_memory
outcome_line outcome.Io = Some broken
outcome_line outcome.Failed = Some broken
outcome_line outcome.Over = Some broken

-- The outcome of a run that ends as a session does. A session that ended by itself is told as `exit 0` is.
abbrev pub outcome_by : SessionEnd → Outcome
outcome_by end.Ended = outcome.Exit 0
outcome_by end.Budget = outcome.Budget
outcome_by (end.Exit status) = outcome.Exit status
outcome_by end.Memory = outcome.Memory
outcome_by end.Io = outcome.Io

-- ---- what the program does

-- What ended with this outcome and left outputs as P says is told: the status is the outcome's, and its line goes to standard error.
pub record IsTold {R W E : Type 0} (P : Option (List ℕ) → Option (List ℕ) → Type 0) (o : Outcome) (status : ℕ) (old new : Devices R W E) : Type 0 where
  -- standard error before that line
  pub before : Told E
  pub outputs : P new.out.bytes before.bytes
  pub failures : RunCounted (outcome_is_io o) (failures_told old) (failures_told (record new { err = before }))
  pub answers : status ≡ status_of o
  pub says : SaidIf (outcome_line o) before new.err

-- A run reports what the script means, and is told.
pub record Ran {R W E : Type 0} (got : Got Completion) (status : ℕ) (old new : Devices R W E) : Type 0 where
  pub report : Report
  pub is_told : IsTold (Reports report got) report.outcome status old new

-- A session in this dialect and with this budget ends as its definition says, and is told.
pub record RanSession {R W E : Type 0} (dialect : Dialect) (budget status : ℕ) (old new : Devices R W E) : Type 0 where
  pub end : SessionEnd
  pub is_told : IsTold (Tells end (session dialect (channels_at old) budget)) (outcome_by end) status old new

-- The words or the file are refused with a line, and nothing else happens.
pub record Refused {R W E : Type 0} (line : List ℕ) (status : ℕ) (old new : Devices R W E) : Type 0 where
  pub answers : status ≡ 5
  pub input : new.input ≡ old.input
  pub out : new.out ≡ old.out
  pub says : Said line old.err new.err

-- the file's name is the first of the words from it on
abbrev pub file_name : List (List ℕ) → List ℕ
file_name [] = []
file_name (name ∷ words) = name

-- What the program does in a dialect for the words from the file's name on, in UTF-8, and the bytes of the file, if it could be read.
abbrev pub RunsFile : {R W E : Type 0} → Dialect → ℕ → List (List ℕ) → Option (List ℕ) → ℕ → Devices R W E → Devices R W E → Type 0
RunsFile dialect budget words None status old new = Refused (unreadable (file_name words)) status old new
RunsFile dialect budget words (Some bytes) status old new =
    (IsUtf8 bytes → Ran (run_with_args dialect (joined_newlines (chars bytes)) (map chars words) (channels_at old) budget) status old new)
    × ((IsUtf8 bytes → ⊥) → Refused (not_utf8 (file_name words)) status old new)

-- What the program does for its words, in UTF-8: it runs the file whose name stands at a place among them, or a session where no
-- file is asked for.
abbrev pub RunsAsked : {R W E : Type 0} → Dialect → ℕ → Option ℕ → List (List ℕ) → Option (List ℕ) → ℕ → Devices R W E → Devices R W E → Type 0
RunsAsked dialect budget None words file status old new = RanSession dialect budget status old new
RunsAsked dialect budget (Some place) words file status old new = RunsFile dialect budget (drop place words) file status old new

-- What the program does for what its words ask, the words in UTF-8, and its file: the status that it answers, and the devices
-- before and after. What it does is the same with every slice.
abbrev pub RunsWords : {R W E : Type 0} → Option Request → List (List ℕ) → Option (List ℕ) → ℕ → Devices R W E → Devices R W E → Type 0
RunsWords None words file status old new = Refused usage_line status old new
RunsWords (Some request) words file status old new = RunsAsked request.dialect request.budget request.file words file status old new
