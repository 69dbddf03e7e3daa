-- What the program does, put together from the calls that it makes.
use Rattle.std.proofs.Common.{◌≡◌, ℕ, ◌-◌, ◌<◌, suc, zero, Bool, false, List, [], ◌∷◌, length, take, drop, map, Option, Some, None, option_map, refl, sym, ap, subst, ◌∙◌, arith, Bor, slice_index_or}
use Rattle.std.specs.Str.{chars, IsUtf8}
use Rattle.std.proofs.lemmas.List.{length-drop}
use Rattle.std.proofs.Math.Seq.{take-length}
use Rattle.tcl_chan.specs.Newlines.{joined_newlines}
use Rattle.tcl_chars.specs.declared.numbers.Dialect.{Dialect}
use Rattle.tcl_meaning.specs.Completions.{Completion}
use Rattle.tcl_meaning.specs.Effects.{Got}
use Rattle.tcl_meaning.specs.Run.{argument_variables, first_store, run_with_args}
use Rattle.tcl_meaning.specs.State.{State}
use Rattle.tcl_interp.specs.Channels.{RunCounted}
use Rattle.tcl_interp.specs.Outcome.{outcome_is_io}
use Rattle.tcl_interp.specs.Report.{Reports}
use Rattle.tcl_interp.specs.declared.host.Outcome.{Outcome}
use Rattle.tcl_interp.specs.declared.host.Outcome.TheVariants as outcome
use Rattle.tcl_interp.specs.declared.report.Report.{Report}
use Rattle.tcl_interp.proofs.Ending.{begun_part}
use Rattle.tcl_shell.specs.Ends.{Tells, end_is_io}
use Rattle.tcl_shell.specs.Session.{session}
use Rattle.tcl_shell.specs.declared.end.SessionEnd.{SessionEnd}
use Rattle.tcl_shell.specs.declared.end.SessionEnd.TheVariants as end
use Rattle.tcl_shell.specs.Lines.{Said, SaidIf, unreadable, not_utf8}
use Rattle.tcl_shell.specs.Program.{Devices, IsTold, Ran, RanSession, RunsAsked, RunsWords, RunsFile, channels_at, failures_told, file_name, status_of, outcome_by, outcome_line}
use Rattle.tcl_shell.specs.declared.words.Request.{Request}

-- ---- a run

-- standard error alone is written once more
written_more : {R W E : Type 0} (P : Devices R W E → Type 0) (old new : Devices R W E) → new.input ≡ old.input → new.out ≡ old.out → P (record old { err = new.err }) → P new
written_more P old new input out h =
    subst (λ o. P (record { input = new.input; out = o; err = new.err })) (sym out) (subst (λ i. P (record { input = i; out = old.out; err = new.err })) (sym input) h)

module _ {R W E : Type 0} (dialect : Dialect) (script : List ℕ) (args : List (List ℕ)) (budget status : ℕ) (old : Devices R W E) where
  abbrev got : Got Completion
  got = run_with_args dialect script args (channels_at old) budget

  -- that was refused memory before it began
  ran_nothing : (new : Devices R W E) → new.input ≡ old.input → new.out ≡ old.out → status ≡ status_of outcome.Memory → SaidIf (outcome_line outcome.Memory) old.err new.err → Ran got status old new
  ran_nothing new input out answers says =
      let s : State = record { store = first_store (argument_variables args); channels = channels_at old; units = budget } in
      written_more (Ran got status old) old new input out (record {
        report = record { outcome = outcome.Memory; interp = None };
        is_told = record {
          before = old.err;
          outputs = record { memory = refl; part = record { left = s.channels.input; met_end = false; holds = begun_part dialect script s } };
          failures = refl;
          answers = answers;
          says = says;
        };
      })

  -- and one that is reported
  ran : (report : Report) (between new : Devices R W E) → new.input ≡ between.input → new.out ≡ between.out → Reports report got between.out.bytes between.err.bytes → RunCounted (outcome_is_io report.outcome) (failures_told old) (failures_told between)
      → status ≡ status_of report.outcome → SaidIf (outcome_line report.outcome) between.err new.err → Ran got status old new
  ran report between new input out reports failures answers says =
      written_more (Ran got status old) between new input out (record { report = report; is_told = record { before = between.err; outputs = reports; failures = failures; answers = answers; says = says } })

-- ---- a session

-- a device failed in the session where the outcome says so
io_by : (e : SessionEnd) → end_is_io e ≡ outcome_is_io (outcome_by e)
io_by end.Ended = refl
io_by end.Budget = refl
io_by (end.Exit status) = refl
io_by end.Memory = refl
io_by end.Io = refl

pub ran_session : {R W E : Type 0} (dialect : Dialect) (budget status : ℕ) (e : SessionEnd) (o : Outcome) (old between new : Devices R W E) → o ≡ outcome_by e → new.input ≡ between.input → new.out ≡ between.out → Tells e (session dialect (channels_at old) budget) between.out.bytes between.err.bytes
    → RunCounted (end_is_io e) (failures_told old) (failures_told between) → status ≡ status_of o → SaidIf (outcome_line o) between.err new.err → RanSession dialect budget status old new
ran_session dialect budget status e o old between new is input out tells failures answers says =
    let told : IsTold (Tells e (session dialect (channels_at old) budget)) o status old (record between { err = new.err }) = record {
      before = between.err;
      outputs = tells;
      failures = subst (λ (io : Bool). RunCounted io (failures_told old) (failures_told between)) (io_by e ∙ ap outcome_is_io (sym is)) failures;
      answers = answers;
      says = says;
    } in
    written_more (RanSession dialect budget status old) between new input out (record { end = e; is_told = subst (λ (x : Outcome). IsTold (Tells e (session dialect (channels_at old) budget)) x status old (record between { err = new.err })) is told })

-- ---- what is answered for a file and the words from its name on

abbrev pub texts : List (Bor (List ℕ)) → List (List ℕ)
texts ws = map (λ w. w.now) ws

name_is : (d : Bor (List ℕ)) (ws : List (Bor (List ℕ))) → 0 < length ws → (slice_index_or ws 0 d).now ≡ file_name (texts ws)
name_is d [] l = absurd (omega (arith, l))
name_is d (w ∷ ws) l = refl

args_are : (ws : List (Bor (List ℕ))) → map (λ w. chars w.now) ws ≡ map chars (texts ws)
args_are [] = refl
args_are (w ∷ ws) = ap (λ l. chars w.now ∷ l) (args_are ws)

module _ {R W E : Type 0} (dialect : Dialect) (budget : ℕ) (ws : List (Bor (List ℕ))) (file : Option (Bor (List ℕ))) (old new : Devices R W E) where
  pub unread_file : (d : Bor (List ℕ)) → 0 < length ws → file ≡ None → new.input ≡ old.input → new.out ≡ old.out → Said (unreadable (slice_index_or ws 0 d).now) old.err new.err → RunsFile dialect budget (texts ws) (option_map (λ f. f.now) file) 5 old new
  unread_file d l e input out says =
      rw e (record { answers = refl; input = input; out = out; says = subst (λ name. Said (unreadable name) old.err new.err) (name_is d ws l) says })

  pub bad_file : (d : Bor (List ℕ)) (bytes : Bor (List ℕ)) → 0 < length ws → file ≡ Some bytes → (IsUtf8 bytes.now → ⊥) → new.input ≡ old.input → new.out ≡ old.out → Said (not_utf8 (slice_index_or ws 0 d).now) old.err new.err → RunsFile dialect budget (texts ws) (option_map (λ f. f.now) file) 5 old new
  bad_file d bytes l e bad input out says =
      rw e (λ u. absurd (bad u), λ b. record { answers = refl; input = input; out = out; says = subst (λ name. Said (not_utf8 name) old.err new.err) (name_is d ws l) says })

  good_file : (bytes : Bor (List ℕ)) (status : ℕ) → file ≡ Some bytes → IsUtf8 bytes.now → Ran (run_with_args dialect (joined_newlines (chars bytes.now)) (map (λ w. chars w.now) ws) (channels_at old) budget) status old new → RunsFile dialect budget (texts ws) (option_map (λ f. f.now) file) status old new
  good_file bytes status e u ran =
      rw e (λ v. subst (λ args. Ran (run_with_args dialect (joined_newlines (chars bytes.now)) args (channels_at old) budget) status old new) (args_are ws) ran, λ bad. absurd (bad u))

  pub refused_file : (bytes : Bor (List ℕ)) (status : ℕ) → file ≡ Some bytes → IsUtf8 bytes.now → new.input ≡ old.input → new.out ≡ old.out → status ≡ status_of outcome.Memory → SaidIf (outcome_line outcome.Memory) old.err new.err → RunsFile dialect budget (texts ws) (option_map (λ f. f.now) file) status old new
  refused_file bytes status e u input out answers says =
      good_file bytes status e u (ran_nothing dialect (joined_newlines (chars bytes.now)) (map (λ w. chars w.now) ws) budget status old new input out answers says)

  pub read_file : (bytes : Bor (List ℕ)) (script : List ℕ) (status : ℕ) (report : Report) (between : Devices R W E) → file ≡ Some bytes → IsUtf8 bytes.now → script ≡ joined_newlines (chars bytes.now) → new.input ≡ between.input → new.out ≡ between.out
      → Reports report (run_with_args dialect script (map (λ w. chars w.now) ws) (channels_at old) budget) between.out.bytes between.err.bytes → RunCounted (outcome_is_io report.outcome) (failures_told old) (failures_told between)
      → status ≡ status_of report.outcome → SaidIf (outcome_line report.outcome) between.err new.err → RunsFile dialect budget (texts ws) (option_map (λ f. f.now) file) status old new
  read_file bytes script status report between e u is input out reports failures answers says =
      let args = map (λ (w : Bor (List ℕ)). chars w.now) ws in
      good_file bytes status e u
      (subst (λ t. Ran (run_with_args dialect t args (channels_at old) budget) status old new) is (ran dialect script args budget status old report between new input out reports failures answers says))

-- ---- what is answered for words that ask for a file

from_place : (ws : List (Bor (List ℕ))) (n : ℕ) → texts (take (length ws - n) (drop n ws)) ≡ drop n (texts ws)
from_place ws n = ap texts (ap (λ k. take k (drop n ws)) (sym (length-drop n ws)) ∙ take-length (drop n ws)) ∙ behind ws n
  where
    behind : (ws : List (Bor (List ℕ))) (n : ℕ) → texts (drop n ws) ≡ drop n (texts ws)
    behind ws zero = refl
    behind [] (suc n) = refl
    behind (w ∷ ws) (suc n) = behind ws n

pub answered : {R W E : Type 0} (asked : Option Request) (r : Request) (place : ℕ) (ws : List (Bor (List ℕ))) (file : Option (List ℕ)) (status : ℕ) (old new : Devices R W E) → asked ≡ Some r → r.file ≡ Some place
    → RunsFile r.dialect r.budget (texts (take (length ws - place) (drop place ws))) file status old new → RunsWords asked (texts ws) file status old new
answered asked r place ws file status old new e at h =
    rw e (subst (λ (f : Option ℕ). RunsAsked r.dialect r.budget f (texts ws) file status old new) (sym at) (subst (λ words. RunsFile r.dialect r.budget words file status old new) (from_place ws place) h))
