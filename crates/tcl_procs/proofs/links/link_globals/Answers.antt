use Rattle.std.proofs.lemmas.Result.{err_from_is_err_and}
use Rattle.tcl_meaning.specs.ProcedurePages.{link_globals}
use Rattle.tcl_procs.proofs.LinkLemmas.{global_linked, global_stops}
use Rattle.tcl_procs.proofs.links.link_globals.Goals as goal

pub names-preserved : goal.names-preserved
names-preserved c =
    global_linked (link_globals c.args.names.now) c.names.left.now c.name-item.result c.args.frames.now c.names.frames c.link_global_word.new.frames
    c.in-len1-up.len_at_least c.name-item.is c.names.invariant c.in_ok-link_global_word.ensures

pub returns-in_err-link_global_word : goal.returns-in_err-link_global_word
returns-in_err-link_global_word c =
    let p = err_from_is_err_and c.from_residual.result c.from_residual.ensures.1 in
    rw (p.1, p.2)
    (global_stops (link_globals c.args.names.now) c.names.left.now c.name-item.result c.args.frames.now c.names.frames c.link_global_word.new.frames
    c.in-len1-up.len_at_least c.name-item.is c.names.invariant _ c.in_err-link_global_word.ensures)
