use Rattle.tcl_procs.proofs.LinkLemmas.{at_caller, at_named}
use Rattle.tcl_procs.proofs.links.upvar_words.Goals as goal

pub returns-then-words-eq0 : goal.returns-then-words-eq0
returns-then-words-eq0 c = at_caller c.args.words.now c.args.frames.now c.link_all.new.frames c.link_all.result c.if-words-eq0.true c.link_all.ensures

pub returns : goal.returns
returns c =
    at_named c.args.words.now c.args.frames.now c.link_all_at.new.frames c.link_all_at.result c.word-item.result c.if-words-eq0.false c.in-len1-up.len_at_least c.word-item.is
    c.link_all_at.ensures
