use Rattle.std.proofs.lemmas.Bool.{not-false}
use Rattle.tcl_lists.proofs.IndexLemmas.{word_index}
use Rattle.tcl_lists.proofs.index.is_index_list.Goals as goal

pub returns-clause-themselves : goal.returns-clause-themselves
returns-clause-themselves c =
    λ no. word_index c.args.indices.now c.index-indices-0.result c.if-indices-ne1.false c.index-indices-0.is (c.is_word.ensures (not-false _ no))
