use Rattle.std.proofs.Common.{sym, ◌∙◌, refl, arith}
use Rattle.std.specs.Str.{chars}
use Rattle.tcl_values.specs.Kept.{texts}
use Rattle.tcl_values.specs.Paired.{zipped}
use Rattle.tcl_values.proofs.PairKept.{less_kept, even_less}
use Rattle.tcl_values.proofs.PairPlaces.{taken_out, none_out}
use Rattle.tcl_values.proofs.pairs.remove_own.Goals as goal

pub returns-in-Some-clause-removed : goal.returns-in-Some-clause-removed
returns-in-Some-clause-removed c =
    (λ n. zipped (c.remove_at.ensures.keys n) (texts (c.remove_at.ensures.values n)))
    ∙ taken_out (chars c.args.key.now) c.args.own.now.keys.keys c.args.own.now.values.items c.requires.even c.in-Some.place c.in-Some.ensures.index

pub returns-in-Some-clause-kept : goal.returns-in-Some-clause-kept
returns-in-Some-clause-kept c =
    less_kept c.args.own.now _ (chars c.args.key.now) c.requires (omega (arith, c.remove_at.ensures.depth, c.requires.limit)) c.remove_at.ensures.deeper
    (even_less c.args.own.now.keys.keys _ c.args.own.now.values.items _ c.in-Some.place c.requires.even c.in-Some.ensures.within c.remove_at.ensures.keys c.remove_at.ensures.values)
    c.remove_at.ensures.text
    ((λ n. zipped (c.remove_at.ensures.keys n) (texts (c.remove_at.ensures.values n)))
    ∙ taken_out (chars c.args.key.now) c.args.own.now.keys.keys c.args.own.now.values.items c.requires.even c.in-Some.place c.in-Some.ensures.index)

pub returns-in-None-clause-removed : goal.returns-in-None-clause-removed
returns-in-None-clause-removed c = none_out (chars c.args.key.now) c.args.own.now.keys.keys c.args.own.now.values.items c.requires.even (sym c.in-None.ensures.found)

pub returns-in-None-clause-kept : goal.returns-in-None-clause-kept
returns-in-None-clause-kept c =
    less_kept c.args.own.now _ (chars c.args.key.now) c.requires c.requires.limit c.requires.deeper c.requires.even refl
    (none_out (chars c.args.key.now) c.args.own.now.keys.keys c.args.own.now.values.items c.requires.even (sym c.in-None.ensures.found))
