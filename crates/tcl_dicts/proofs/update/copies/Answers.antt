use Rattle.tcl_dicts.proofs.DictWords.{words_more}
use Rattle.tcl_dicts.proofs.update.copies.Goals as goal

pub loop-place-preserved : goal.loop-place-preserved
loop-place-preserved c = let i = c.loop-place.place in let h = c.in_ok-word_at.ensures in let k = c.in_ok-push.ensures.items in let t = c.loop-place-test.true in
    words_more c.loop-place.copies.items _ c.args.words.now _ i _ t h k c.loop-place.invariant
