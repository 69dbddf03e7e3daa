use Rattle.std.proofs.Common.{◌≤◌, false}
use Rattle.tcl_vm.specs.Machines.{config_of}
use Rattle.tcl_vm.specs.Turns.{potential, asked, rest}
use Rattle.tcl_vm.proofs.Going.{Keeps}
use Rattle.tcl_vm.proofs.machine.go.Given as goal

abbrev pub invariant-used : goal.invariant-used
invariant-used g l = record {
  keeps : Keeps (g.E.Engine.dialect l.fn.engine) (config_of g.E.Engine.views l.fn.next l.fn.machine (g.E.Engine.shown l.fn.engine)) (config_of g.E.Engine.views l.now l.machine (g.E.Engine.shown l.engine));
  leaves : g.E.Engine.leaves false l.fn.engine l.engine;
}

abbrev pub decreases-used : goal.decreases-used
decreases-used g l = potential (config_of g.E.Engine.views l.now l.machine (g.E.Engine.shown l.engine))

abbrev pub invariant-begun : goal.invariant-begun
invariant-begun g l = record {
  keeps : Keeps (g.E.Engine.dialect l.fn.engine) (config_of g.E.Engine.views l.fn.next l.fn.machine (g.E.Engine.shown l.fn.engine)) (config_of g.E.Engine.views l.now l.machine (g.E.Engine.shown l.engine));
  leaves : g.E.Engine.leaves false l.fn.engine l.engine;
  less : potential (config_of g.E.Engine.views l.now l.machine (g.E.Engine.shown l.engine)) ≤ potential (config_of g.E.Engine.views l.initial.now l.initial.machine (g.E.Engine.shown l.initial.engine));
}

abbrev pub decreases-begun : goal.decreases-begun
decreases-begun g l = asked (config_of g.E.Engine.views l.now l.machine (g.E.Engine.shown l.engine))

abbrev pub invariant-on : goal.invariant-on
invariant-on g l = record {
  keeps : Keeps (g.E.Engine.dialect l.fn.engine) (config_of g.E.Engine.views l.fn.next l.fn.machine (g.E.Engine.shown l.fn.engine)) (config_of g.E.Engine.views l.now l.machine (g.E.Engine.shown l.engine));
  leaves : g.E.Engine.leaves false l.fn.engine l.engine;
  less : potential (config_of g.E.Engine.views l.now l.machine (g.E.Engine.shown l.engine)) ≤ potential (config_of g.E.Engine.views l.initial.now l.initial.machine (g.E.Engine.shown l.initial.engine));
  fewer : asked (config_of g.E.Engine.views l.now l.machine (g.E.Engine.shown l.engine)) ≤ asked (config_of g.E.Engine.views l.initial.now l.initial.machine (g.E.Engine.shown l.initial.engine));
}

abbrev pub decreases-on : goal.decreases-on
decreases-on g l = rest (config_of g.E.Engine.views l.now l.machine (g.E.Engine.shown l.engine))
