-- Steps, and what they are made of, as the definition has them.
use Rattle.std.specs.Prelude.{List, [], ◌∷◌, None, Some, drop, map, option_map}
use Rattle.tcl_meaning.specs.Effects as effects
use Rattle.tcl_meaning.specs.Frames as frames
use Rattle.tcl_meaning.specs.Tasks as tasks
use Rattle.tcl_steps.specs.declared.step.Scope.{Scope}
use Rattle.tcl_steps.specs.declared.step.Scope.TheVariants as scope
use Rattle.tcl_steps.specs.declared.step.LoopList.{LoopList}
use Rattle.tcl_steps.specs.declared.step.Each.{Each}
use Rattle.tcl_steps.specs.declared.step.Loop.{Loop}
use Rattle.tcl_steps.specs.declared.step.Loop.TheVariants as loop
use Rattle.tcl_steps.specs.declared.step.Others.{Others}
use Rattle.tcl_steps.specs.declared.step.Catches.{Catches}
use Rattle.tcl_steps.specs.declared.step.Catches.TheVariants as catches
use Rattle.tcl_steps.specs.declared.step.Handler.{Handler}
use Rattle.tcl_steps.specs.declared.step.Handlers.{Handlers}
use Rattle.tcl_steps.specs.declared.step.Owes.{Owes}
use Rattle.tcl_steps.specs.declared.step.Owes.TheVariants as owes
use Rattle.tcl_steps.specs.declared.step.Step.{Step}
use Rattle.tcl_steps.specs.declared.step.Step.TheVariants as step

abbrev pub scope_of : Scope → effects.Scope
scope_of scope.Here = effects.Here
scope_of (scope.Up n) = effects.At (frames.up n)
scope_of (scope.At n) = effects.At (frames.at n)
scope_of (scope.Within variables) = effects.Within variables.value

abbrev pub loop_list_of : LoopList → tasks.LoopList
loop_list_of l = record { names = l.names.items; elements = drop l.gone l.elements }

abbrev pub loop_lists_of : List LoopList → List tasks.LoopList
loop_lists_of [] = []
loop_lists_of (l ∷ ls) = loop_list_of l ∷ loop_lists_of ls

abbrev pub each_of : Each → tasks.Each
each_of e = record { lists = loop_lists_of e.lists.items; body = e.body; results = option_map (λ v. v.items) e.results }

abbrev pub loop_of : Loop → tasks.Loop
loop_of (loop.While w) = tasks.While w.value.test w.value.body
loop_of (loop.For f) = tasks.For f.value.test f.value.next f.value.body
loop_of (loop.ForEach e) = tasks.ForEach (each_of e.value)

abbrev pub others_of : Others → tasks.Others
others_of o = record { clauses = drop o.gone o.clauses.items; otherwise = o.otherwise }

abbrev pub catches_of : Catches → tasks.Catches
catches_of (catches.On code) = tasks.On code
catches_of (catches.Trap pattern) = tasks.Trap pattern.items

abbrev pub handler_of : Handler → tasks.Handler
handler_of h = record { catches = catches_of h.catches; names = h.names.items; script = h.script }

abbrev pub handlers_of : Handlers → tasks.Handlers
handlers_of hs = record { clauses = map handler_of hs.clauses.items; finally = hs.finally }

abbrev pub owes_of : Owes → tasks.Owes
owes_of owes.Nothing = tasks.Nothing
owes_of owes.Leaving = tasks.Leaving
owes_of owes.Catching = tasks.Catching []
owes_of (owes.CatchingResult name) = tasks.Catching (name ∷ [])
owes_of (owes.CatchingOptions names) = tasks.Catching (names.value.0 ∷ names.value.1 ∷ [])
owes_of (owes.IfTest i) = tasks.IfTest i.value.body (others_of i.value.others)
owes_of (owes.WhileTest w) = tasks.WhileTest w.value.test w.value.body
owes_of (owes.ForTest f) = tasks.ForTest f.value.test f.value.next f.value.body
owes_of (owes.WhileBody w) = tasks.WhileBody w.value.test w.value.body
owes_of (owes.ForStart f) = tasks.ForStart f.value.test f.value.next f.value.body
owes_of (owes.ForBody f) = tasks.ForBody f.value.test f.value.next f.value.body
owes_of (owes.ForNext f) = tasks.ForNext f.value.test f.value.next f.value.body
owes_of (owes.EachBody e) = tasks.EachBody (each_of e.value)
owes_of (owes.Trying handlers) = tasks.Trying (handlers_of handlers.value)
owes_of owes.Handled = tasks.Handling None
owes_of (owes.Handling finally) = tasks.Handling (Some finally)
owes_of (owes.Finishing before) = tasks.Finishing before.value

abbrev pub step_of : Step Scope Owes Loop → tasks.Step
step_of (step.Done c) = tasks.Done c
step_of (step.Run scope script owes) = tasks.Run (scope_of scope) script (owes_of owes)
step_of (step.Evaluate expr owes) = tasks.Evaluate expr (owes_of owes)
step_of (step.Pay loop) = tasks.Pay (loop_of loop)
