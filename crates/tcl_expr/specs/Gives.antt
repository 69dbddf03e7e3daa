-- What the parser's steps answer.
use Rattle.std.specs.Prelude.{◌≡◌, List, Result, Ok, Err}
use Rattle.tcl_chars.specs.declared.fault.ReadFault.{ReadFault}
use Rattle.tcl_chars.specs.declared.fault.ReadFault.TheVariants as stop
use Rattle.tcl_expr.specs.declared.fault.ExprSyntax.{ExprSyntax}
use Rattle.tcl_expr.specs.declared.state.Wanted.{Wanted}
use Rattle.tcl_expr.specs.declared.state.Wanted.TheVariants as wanted
use Rattle.tcl_expr.specs.declared.state.State.{State}
use Rattle.tcl_expr.specs.declared.state.State.TheVariants as state
use Rattle.tcl_expr.specs.declared.tree.Tree.{Tree}
use Rattle.tcl_expr.specs.Expr.{Expr}
use Rattle.tcl_expr.specs.ExprFault.{ExprFault}
use Rattle.tcl_expr.specs.Machine as machine
use Rattle.tcl_expr.specs.View.{view, fault_view}

abbrev pub state_view : State → List machine.Held → machine.State
state_view (state.Wants p) s = machine.wants p s
state_view (state.Has x) s = machine.has (view x) s

-- a refused growth says nothing
abbrev pub StopsFor : {A : Type 0} → ReadFault ExprSyntax → Result A ExprFault → Type 0
StopsFor stop.Memory r = Unit {0}
StopsFor (stop.Bad m) r = r ≡ Err (fault_view m)

-- the state that a step leaves, with the stack as it is then
abbrev pub Steps : Result State (ReadFault ExprSyntax) → List machine.Held → Result machine.State ExprFault → Type 0
Steps (Ok now) s r = r ≡ Ok (state_view now s)
Steps (Err e) s r = StopsFor e r

abbrev pub Finishes : Result Tree (ReadFault ExprSyntax) → Result Expr ExprFault → Type 0
Finishes (Ok t) r = r ≡ Ok (view t)
Finishes (Err e) r = StopsFor e r

abbrev pub wanted_by : State → Wanted
wanted_by (state.Wants p) = p
wanted_by (state.Has x) = wanted.Operator

abbrev pub result_view : Result Tree ExprSyntax → Result Expr ExprFault
result_view (Ok t) = Ok (view t)
result_view (Err m) = Err (fault_view m)
