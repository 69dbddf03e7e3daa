use Rattle.std.proofs.Common.{ap, sym, ◌∙◌}
use Rattle.std.specs.Str.{chars}
use Rattle.tcl_chars.specs.Index.{number_or_sum, index_of}
use Rattle.tcl_chars.proofs.IndicesLemmas.{alone}
use Rattle.tcl_chars.proofs.indices.read_index.Goals as goal

pub returns-in-Not : goal.returns-in-Not
unfolding index_of
returns-in-Not c = c.read_sum.ensures ∙ ap (number_or_sum c.args.dialect (chars c.args.text.now)) c.in-Not.ensures

pub returns-in_default : goal.returns-in_default
unfolding index_of
returns-in_default c =
    c.of_whole.ensures ∙ sym (alone c.args.dialect (chars c.args.text.now) c.read_whole.result c.in_default.not-Not) ∙ ap (number_or_sum c.args.dialect (chars c.args.text.now)) c.read_whole.ensures
