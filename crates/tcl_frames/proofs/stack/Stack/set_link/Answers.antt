use Rattle.std.specs.Str.{chars}
use Rattle.tcl_frames.proofs.Standings.{linked_standing, linked_done}
use Rattle.tcl_frames.proofs.stack.Stack.set_link.Goals as goal

pub invariant_of-self : goal.invariant_of-self
invariant_of-self c =
    linked_standing c.self.inside.calls.items c.self.inside.active c.args.self.now c.index_mut.result.now c.self.view_is c.index_mut.ensures.value c.self.invariant c.set_link.result (chars c.args.name.now) c.args.target c.set_link.new.self
    c.set_link.ensures.done c.set_link.ensures.same c.requires.earlier c.requires.free c.requires.apart

pub returns-clause-done : goal.returns-clause-done
returns-clause-done c cs =
    linked_done c.self.inside.calls.items c.self.inside.active c.args.self.now c.index_mut.result.now c.self.view_is c.index_mut.ensures.value c.self.invariant c.set_link.result (chars c.args.name.now) c.args.target c.set_link.new.self cs
    c.set_link.ensures.done
