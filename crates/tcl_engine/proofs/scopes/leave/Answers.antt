use Rattle.tcl_engine.proofs.Scoping.{back_there, gone_more, gone_left, back_undone, gone_undone}
use Rattle.tcl_engine.proofs.scopes.leave.Goals as goal

pub activate-requires : goal.activate-requires
activate-requires c = back_there c.args.undone c.in-Back.active c.args.frames.now c.in-Back.is c.requires

pub pop-requires : goal.pop-requires
pop-requires c = gone_more c.args.undone c.in-Gone.active c.in-Gone.field-1 c.args.frames.now c.in-Gone.is c.requires

pub activate-requires-in-Gone : goal.activate-requires-in-Gone
activate-requires-in-Gone c = gone_left c.args.undone c.in-Gone.active c.in-Gone.field-1 c.args.frames.now c.pop.new.self c.in-Gone.is c.requires c.pop.ensures

pub returns-in-Back : goal.returns-in-Back
returns-in-Back c = back_undone c.args.undone c.in-Back.active c.args.frames.now c.activate.new.self c.in-Back.is c.activate.ensures.active

pub returns-in-Gone : goal.returns-in-Gone
returns-in-Gone c = gone_undone c.args.undone c.in-Gone.active c.in-Gone.field-1 c.args.frames.now c.pop.new.self c.activate-in-Gone.new.self c.in-Gone.is c.requires c.pop.ensures c.activate-in-Gone.ensures.active
