use Rattle.std.proofs.lemmas.Result.{err_from_is_err_and}
use Rattle.std.specs.Str.{chars}
use Rattle.tcl_frames.specs.Levels.{level_of}
use Rattle.tcl_meaning.specs.ProcedurePages.{link_pairs}
use Rattle.tcl_procs.proofs.LinkLemmas.{pair_linked, pair_stops, pairs_done}
use Rattle.tcl_procs.proofs.links.link_pairs.Goals as goal

pub pairs-preserved : goal.pairs-preserved
pairs-preserved c =
    let word = chars c.args.word.now in
    let level = level_of c.args.level in
    pair_linked (link_pairs word level c.args.names.now) word level c.pairs.left.now c.other-item.result c.local-item.result c.args.frames.now c.pairs.frames c.link_pair.new.frames
    c.in-len2-up.len_at_least c.other-item.is c.local-item.is c.pairs.invariant c.in_ok-link_pair.ensures

pub returns-in_err-link_pair : goal.returns-in_err-link_pair
returns-in_err-link_pair c =
    let p = err_from_is_err_and c.from_residual.result c.from_residual.ensures.1 in
    let word = chars c.args.word.now in
    let level = level_of c.args.level in
    rw (p.1, p.2)
    (pair_stops (link_pairs word level c.args.names.now) word level c.pairs.left.now c.other-item.result c.local-item.result c.args.frames.now c.pairs.frames c.link_pair.new.frames
    c.in-len2-up.len_at_least c.other-item.is c.local-item.is c.pairs.invariant _ c.in_err-link_pair.ensures)

pub returns : goal.returns
returns c =
    pairs_done (link_pairs (chars c.args.word.now) (level_of c.args.level) c.args.names.now) (chars c.args.word.now) (level_of c.args.level) c.pairs.left.now c.in_ok-nothing.field-0 c.args.frames.now c.pairs.frames
    c.in_default.len_below c.in_ok-nothing.ensures c.pairs.invariant
