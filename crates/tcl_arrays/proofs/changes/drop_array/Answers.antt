use Rattle.std.proofs.Common.{None}
use Rattle.std.specs.FinMap as map
use Rattle.std.specs.Str.{chars}
use Rattle.tcl_arrays.proofs.UnsetLemmas.{nothing_goes, array_goes, not_refused}
use Rattle.tcl_arrays.proofs.Walks.{is_none_there, is_one_there}
use Rattle.tcl_frames.specs.Standing.{store_of}
use Rattle.tcl_arrays.proofs.changes.drop_array.Goals as goal

pub returns-then-is_none : goal.returns-then-is_none
returns-then-is_none c cs =
    nothing_goes (store_of cs c.args.frames.now) (chars c.args.name.now) None
    (is_none_there c.array.result c.is_none.result _ c.is_none.ensures c.if-is_none.true (c.array.ensures cs))

pub unreachable-requires : goal.unreachable-requires
unreachable-requires c =
    let is = is_one_there c.array.result c.is_none.result _ c.is_none.ensures c.if-is_none.false (c.array.ensures map.empty) in
    not_refused (store_of map.empty c.args.frames.now) (chars c.args.name.now) is.0 c.in-Err.field-0 is.1 (c.in-Err.ensures.refused map.empty)

pub returns : goal.returns
returns c cs =
    let is = is_one_there c.array.result c.is_none.result _ c.is_none.ensures c.if-is_none.false (c.array.ensures cs) in
    array_goes (store_of cs c.args.frames.now) (store_of cs c.unset.new.self) (chars c.args.name.now) is.0 is.1 (c.in-Ok.ensures.done cs)
