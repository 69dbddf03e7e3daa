use Rattle.std.proofs.Common.{◌≡◌, drop}
use Rattle.tcl_meaning.specs.VariablePages.{unset_all}
use Rattle.tcl_steps.specs.Comes.{Becomes}
use Rattle.tcl_vars.proofs.unsetting.unset_names.Given as goal

abbrev pub invariant-loop-place : goal.invariant-loop-place
invariant-loop-place l = record {
  words : l.words ≡ l.fn.words;
  so_far : Becomes (unset_all (drop l.first l.fn.words)) l.fn.frames (unset_all (drop l.place l.fn.words)) l.frames;
}
