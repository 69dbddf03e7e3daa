use Rattle.tcl_procs.proofs.LinkLemmas.{global_outside, global_inside}
use Rattle.tcl_procs.proofs.links.global_words.Goals as goal

pub returns-then-level-eq0 : goal.returns-then-level-eq0
returns-then-level-eq0 c = rw c.in_ok-nothing.ensures (global_outside c.args.words.now c.args.frames.now c.level.result c.level.ensures c.if-level-eq0.true)

pub returns : goal.returns
returns c =
    global_inside c.args.words.now c.args.frames.now c.level.result c.level.ensures c.link_globals.new.frames c.link_globals.result c.if-level-eq0.false c.link_globals.ensures
