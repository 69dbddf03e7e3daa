use Rattle.std.proofs.Common.{◌≡◌, ◌<◌, ℕ, List, [], length, get_or}
use Rattle.tcl_meaning.specs.Variables.{set_all}
use Rattle.tcl_pages.specs.Texts.{Text}
use Rattle.tcl_steps.specs.Comes.{Becomes}
use Rattle.tcl_steps.proofs.SetAll.{set_from}
use Rattle.tcl_vars.specs.Given.{given_texts}
use Rattle.tcl_vars.proofs.assigning.assign_all.Given as goal

abbrev pub invariant-loop-place : goal.invariant-loop-place
invariant-loop-place l = record {
  names : l.names ≡ l.fn.names;
  so_far : (ts : List Text) → ((i : ℕ) → i < length l.fn.names → get_or (given_texts l.given) i [] ≡ get_or ts i []) → Becomes (set_all l.fn.names ts) l.fn.frames (set_from l.fn.names ts l.place) l.frames;
}
