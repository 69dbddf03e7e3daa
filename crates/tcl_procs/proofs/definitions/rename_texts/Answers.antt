use Rattle.tcl_frames.specs.Standing.{store_of}
use Rattle.tcl_procs.proofs.DefinitionLemmas.{rename_usage_does}
use Rattle.tcl_procs.proofs.definitions.rename_texts.Goals as goal

pub returns-then-texts-ne2-clause-does : goal.returns-then-texts-ne2-clause-does
returns-then-texts-ne2-clause-does c = λ f. rename_usage_does c.args.texts.now (store_of c.args.table.now f) c.wrong_words.result c.if-texts-ne2.true c.wrong_words.ensures
