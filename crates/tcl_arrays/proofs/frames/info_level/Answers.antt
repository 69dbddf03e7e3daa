use Rattle.std.proofs.Common.{Ok, sym, ap, ◌∙◌}
use Rattle.tcl_arrays.proofs.PageLemmas.{level_is}
use Rattle.tcl_frames.specs.Standing.{store_of}
use Rattle.tcl_pages.specs.Texts.{count_text}
use Rattle.tcl_arrays.proofs.frames.info_level.Goals as goal

pub returns-clause-answer : goal.returns-clause-answer
returns-clause-answer c cs = level_is (store_of cs c.args.frames.now) c.args.words.now c.if-words-ne0.false ∙ ap Ok (sym (c.in_ok-of_count.ensures ∙ ap count_text (c.level.ensures cs)))
