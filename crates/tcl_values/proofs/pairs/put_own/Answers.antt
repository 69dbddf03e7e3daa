use Rattle.std.proofs.Common.{refl, ◌∙◌, arith}
use Rattle.tcl_values.specs.Kept.{texts}
use Rattle.tcl_values.specs.Paired.{zipped}
use Rattle.tcl_values.proofs.PairKept.{put_kept, even_set, even_more}
use Rattle.tcl_values.proofs.PairPlaces.{put_there, put_behind, alike_at, alike_none}
use Rattle.tcl_values.proofs.pairs.put_own.Goals as goal

pub returns-in-Some-clause-put : goal.returns-in-Some-clause-put
returns-in-Some-clause-put c =
    (λ n. zipped (c.set_value.ensures.keys n) (texts (c.set_value.ensures.values n)))
    ∙ put_there c.args.key c.args.own.now.keys.keys c.args.own.now.values.items c.requires.kept.even c.args.value c.in-Some.place (alike_at c.args.own.now.keys.keys c.in-Some.place c.as_str.ensures c.in-Some.ensures.index)

pub returns-in-Some-clause-kept : goal.returns-in-Some-clause-kept
returns-in-Some-clause-kept c =
    put_kept c.args.own.now _ c.args.key c.args.value.text c.requires.kept (omega (arith, c.set_value.ensures.depth, c.requires.kept.limit, c.requires.value)) c.set_value.ensures.deeper
    (even_set c.args.own.now.keys.keys _ c.args.own.now.values.items _ c.in-Some.place c.args.value c.requires.kept.even c.set_value.ensures.keys c.set_value.ensures.values)
    c.set_value.ensures.text
    ((λ n. zipped (c.set_value.ensures.keys n) (texts (c.set_value.ensures.values n)))
    ∙ put_there c.args.key c.args.own.now.keys.keys c.args.own.now.values.items c.requires.kept.even c.args.value c.in-Some.place (alike_at c.args.own.now.keys.keys c.in-Some.place c.as_str.ensures c.in-Some.ensures.index))

pub returns-in_ok-add_pair-in-None-clause-put : goal.returns-in_ok-add_pair-in-None-clause-put
returns-in_ok-add_pair-in-None-clause-put c =
    (λ n. zipped (c.in_ok-add_pair-in-None.ensures.keys n) (texts (c.in_ok-add_pair-in-None.ensures.values n)))
    ∙ put_behind c.args.key c.args.own.now.keys.keys c.args.own.now.values.items c.requires.kept.even _ c.args.value (alike_none c.args.own.now.keys.keys c.as_str.ensures c.in-None.ensures.found) refl

pub returns-in_ok-add_pair-in-None-clause-kept : goal.returns-in_ok-add_pair-in-None-clause-kept
returns-in_ok-add_pair-in-None-clause-kept c =
    put_kept c.args.own.now _ c.args.key c.args.value.text c.requires.kept (omega (arith, c.in_ok-add_pair-in-None.ensures.depth, c.requires.kept.limit, c.requires.value)) c.add_pair.ensures.deeper
    (even_more c.args.own.now.keys.keys _ c.args.own.now.values.items _ _ c.args.value c.requires.kept.even c.in_ok-add_pair-in-None.ensures.keys c.in_ok-add_pair-in-None.ensures.values)
    c.in_ok-add_pair-in-None.ensures.text
    ((λ n. zipped (c.in_ok-add_pair-in-None.ensures.keys n) (texts (c.in_ok-add_pair-in-None.ensures.values n)))
    ∙ put_behind c.args.key c.args.own.now.keys.keys c.args.own.now.values.items c.requires.kept.even _ c.args.value (alike_none c.args.own.now.keys.keys c.as_str.ensures c.in-None.ensures.found) refl)
