-- A machine at the beginning of a host's script.
use Rattle.std.proofs.Common.{◌≡◌, ℕ, List, [], sym, ap, ◌∙◌, subst}
use Rattle.tcl_chars.specs.declared.numbers.Dialect.{Dialect}
use Rattle.tcl_pages.specs.Texts.{Text}
use Rattle.tcl_code.specs.Instructions.{Instruction}
use Rattle.tcl_code.specs.Means.{Means}
use Rattle.tcl_code.specs.Running.{Running, begun}
use Rattle.tcl_engine.specs.Answered.{host_views}
use Rattle.tcl_engine.specs.declared.undone.Undone.{Undone}
use Rattle.tcl_meaning.specs.State.{State}
use Rattle.tcl_steps.specs.declared.step.Scope.{Scope}
use Rattle.tcl_steps.specs.declared.step.Owes.{Owes}
use Rattle.tcl_steps.specs.declared.step.Loop.{Loop}
use Rattle.tcl_vm.specs.Machines.{Begins, Pause, first_of, seen}
use Rattle.tcl_vm.proofs.Going.{begins_by}

pub starts : (dialect : Dialect) (p : Pause Running Undone Scope Owes Loop) (a : Running) (code : List Instruction) (text : Text) → p ≡ first_of a → a ≡ begun code 1 → Means dialect code text → (s : State) → Begins dialect text 1 (seen host_views p s)
starts dialect p a code text first begins means s =
    let P : Running → Type 0 = λ x. Means dialect x.code text in
    begins_by dialect host_views p a text 1 s first (record { at_start = ap (λ x. x.spot) begins; is_meant = subst P (sym begins) means })
