use Rattle.std.proofs.Common.{sym}
use Rattle.std.specs.Str.{chars}
use Rattle.std.proofs.lemmas.Option.{get_or_from_slice_get}
use Rattle.tcl_values.proofs.PairPlaces.{found_there, found_nowhere}
use Rattle.tcl_values.proofs.taking.take_own.Goals as goal

pub returns-in-None-clause-value : goal.returns-in-None-clause-value
returns-in-None-clause-value c = found_nowhere (chars c.args.key.now) c.args.own.now.keys.keys c.args.own.now.values.items c.requires.even (sym c.in-None.ensures.found)

pub returns-in_ok-detach_value-in-Some-clause-value : goal.returns-in_ok-detach_value-in-Some-clause-value
returns-in_ok-detach_value-in-Some-clause-value c =
    found_there (chars c.args.key.now) c.args.own.now.keys.keys c.args.own.now.values.items c.requires.even c.in_ok-detach_value-in-Some.field-0 c.in-Some.place c.in-Some.ensures.index
    (sym (get_or_from_slice_get c.args.own.now.values.items c.in-Some.place c.in_ok-detach_value-in-Some.field-0 c.in_ok-detach_value-in-Some.field-0 c.in_ok-detach_value-in-Some.ensures.value))
