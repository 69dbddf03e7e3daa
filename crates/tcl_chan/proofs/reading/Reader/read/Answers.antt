use Rattle.std.proofs.Common.{◌≡◌, ◌∙◌, ◌<◌, ◌^◌, length, IfSome, sym, ap, arith}
use Rattle.std.specs.Rc.{rc_str_bytes}
use Rattle.std.specs.String.{string_bytes}
use Rattle.tcl_chan.specs.Devices.{unread_bytes}
use Rattle.tcl_chan.specs.Sources.{TakesText}
use Rattle.tcl_chan.proofs.Counts.{read-text, wanted-is, met_after}
use Rattle.tcl_chan.proofs.reading.Reader.read.Goals as goal
use Rattle.tcl_chan.proofs.reading.Reader.read.Goals.{then-fewer, else-fewer}

pub returns-clause-text : goal.returns-clause-text
returns-clause-text g c =
    let to_come = g.R.Input.to_come in
    let told = unread_bytes c.args.self.now.held c.args.self.now.ended (to_come c.args.input.now) in
    let device = to_come c.chars_ahead.new.input in
    let s = c.chars_ahead.new.self in
    let u = c.if-fewer.self in
    let size = c.in_ok-text.size in
    let fewer = c.in_ok-text.fewer in
    let string = c.in_ok-text.text in
    let small : length (string_bytes string) < 2 ^ 63 = omega (arith, string.bytes.small, string.bytes.ok) in
    let met = c.args.self.now.met_end in
    let after = unread_bytes u.held u.ended device in
    let whole : after ≡ unread_bytes c.pass.new.self s.ended device → u.met_end ≡ met_after fewer met
    → IfSome told (λ bytes. TakesText c.args.count bytes met (rc_str_bytes c.in_ok-text-2.text) after u.met_end) = λ same now_is.
    read-text told s.held s.ended device after c.args.count c.unwrap_or.result
    met u.met_end (string_bytes string) (rc_str_bytes c.in_ok-text-2.text) size fewer
    c.in_ok-text.ensures.unread c.in_ok-text.ensures.within small (wanted-is c.args.count c.unwrap_or.result c.unwrap_or.ensures) c.in_ok-text.ensures.taken
    c.in_ok-text-2.ensures.ok (same ∙ ap (λ l. unread_bytes l s.ended device) c.pass.ensures) now_is in
    elim c.if-fewer.branch [
      | then-fewer w ↦ whole (ap (λ v. unread_bytes v.held v.ended device) w.self-is)
          (ap (λ v. v.met_end) w.self-is ∙ sym (ap (λ b. met_after b met) w.if-fewer.true))
      | else-fewer w ↦ whole (ap (λ v. unread_bytes v.held v.ended device) w.self-is)
          (ap (λ v. v.met_end) w.self-is ∙ c.in_ok-text.ensures.met_end ∙ sym (ap (λ b. met_after b met) w.if-fewer.false))
    ]
