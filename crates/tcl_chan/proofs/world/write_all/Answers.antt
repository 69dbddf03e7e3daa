use Rattle.std.proofs.Common.{◌∙◌, ◌-◌, drop, length, sym, subst, arith, length-drop, take_all}
use Rattle.tcl_chan.proofs.Puts.{Writing, writing_more}
use Rattle.tcl_chan.proofs.world.write_all.Goals as goal

pub parts-preserved : goal.parts-preserved
parts-preserved g c =
    let rest = c.parts.rest.now in
    let n = c.in-Ok.n in
    let old = g.W.Output.written c.args.output.now in
    let new = g.W.Output.written c.write.new.self in (
      subst (λ l. Writing old new c.args.bytes.now l) (sym (take_all (length rest - n) (drop n rest) (omega (arith, length-drop n rest))))
          (writing_more old (g.W.Output.written c.parts.output) new c.args.bytes.now rest n c.parts.invariant.0 c.in-Ok.ensures.bytes),
      c.in-Ok.ensures.failures ∙ c.parts.invariant.1,
    )
