use Rattle.std.proofs.Common.{◌∙◌, ap, arith, length, length-drop, refl}
use Rattle.std.specs.String.{string_bytes}
use Rattle.tcl_chan.proofs.Takes.{kept-pushed, kept-skipped, kept-fewer, filled-smaller}
use Rattle.tcl_chan.proofs.reading.Reader.chars_ahead.Goals as goal

pub returns-then-size-bytes-clause-taken : goal.returns-then-size-bytes-clause-taken
returns-then-size-bytes-clause-taken g c =
    kept-fewer _ c.chars.self.held c.chars.self.ended _ c.args.count c.chars.left (string_bytes c.chars.text) c.chars.size
    c.chars-test.true c.if-self.true (c.if-size-bytes.true ∙ ap length c.bytes.ensures) c.chars.invariant.4

pub chars-smaller-in-Continue-1 : goal.chars-smaller-in-Continue-1
chars-smaller-in-Continue-1 g c =
    filled-smaller c.chars.self.held c.fill.new.self.held c.chars.self.ended c.fill.new.self.ended c.chars.size
    c.in-None.ensures.first c.in_ok-fill-in-None.ensures.grew c.in_ok-fill-in-None.ensures.small c.chars.invariant.2

pub chars-preserved-in-Some-char : goal.chars-preserved-in-Some-char
chars-preserved-in-Some-char g c =
    let front = c.in-Some.ensures.first in
    let so = c.chars.invariant in
    let held = c.chars.self.held in
    let left = length-drop c.chars.size held in
    let within = front.within in (
      so.0,
      so.1,
      omega (arith, so.2),
      omega (arith, so.3),
      kept-pushed _ held c.chars.self.ended _ c.args.count c.chars.left _ (string_bytes c.chars.text) (string_bytes c.push.new.self)
          c.chars.size c.in-Some-char.c c.in-Some.bytes c.in-Some.char c.in-Some-char.is
          c.in_ok-push-in-Some.ensures.bytes refl so.2 c.chars-test.true front so.4,
    )

pub chars-preserved : goal.chars-preserved
chars-preserved g c =
    let front = c.in-Some.ensures.first in
    let so = c.chars.invariant in
    let held = c.chars.self.held in
    let left = length-drop c.chars.size held in
    let within = front.within in (
      so.0,
      so.1,
      omega (arith, so.2),
      so.3,
      kept-skipped _ held c.chars.self.ended _ c.args.count c.chars.left _ (string_bytes c.chars.text) _
          c.chars.size c.in-Some.bytes c.in-Some.char c.in_default.is refl refl so.2 front so.4,
    )
