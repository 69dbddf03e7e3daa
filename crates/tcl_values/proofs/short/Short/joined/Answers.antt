use Rattle.std.proofs.Common.{arith, drop}
use Rattle.std.proofs.lemmas.List.{drop_all}
use Rattle.tcl_values.specs.Short.{short_text}
use Rattle.tcl_values.proofs.Shorts.{put_behind}
use Rattle.tcl_values.proofs.short.Short.joined.Goals as goal

pub returns-clause-text : goal.returns-clause-text
returns-clause-text c =
    let more = c.args.more.now in
    let i = c.loop-byte.byte-index in
    put_behind (short_text c.args.self.now) more (short_text c.loop-byte.whole) (drop i more) (drop_all i more (omega (arith, c.loop-byte-test.false))) c.loop-byte.invariant.same c.loop-byte.invariant.known.ascii
