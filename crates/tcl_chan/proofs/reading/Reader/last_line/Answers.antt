use Rattle.std.proofs.Common.{◌≡◌, ◌∙◌, length, encode_utf8_all, drop, subst, ap, sym}
use Rattle.std.specs.Rc.{rc_str_bytes}
use Rattle.bstr.specs.Utf8.{lossy_chars}
use Rattle.tcl_chan.specs.Devices.{unread_bytes}
use Rattle.tcl_chan.proofs.Gets.{gets-nothing, gets-last, one_line-all, stays_itself, some_left}
use Rattle.tcl_chan.proofs.reading.Reader.last_line.Goals as goal

pub returns-then-size-eq0-clause-line : goal.returns-then-size-eq0-clause-line
returns-then-size-eq0-clause-line c device =
    let self = c.args.self.now in
    gets-nothing (unread_bytes self.held self.ended device) self.held self.ended device self.met_end
    (stays_itself (unread_bytes self.held self.ended device)) c.requires.ended (ap length (sym c.bytes-size.ensures) ∙ c.if-size-eq0.true)

pub returns-clause-line : goal.returns-clause-line
returns-clause-line c device =
    let self = c.args.self.now in
    let text = rc_str_bytes c.in_ok-text.text in
    gets-last (unread_bytes self.held self.ended device) self.held self.ended device (unread_bytes c.pass.new.self self.ended device) self.met_end text
    (stays_itself (unread_bytes self.held self.ended device)) c.requires.ended (some_left c.bytes-size.result.now self.held c.bytes-size.ensures c.if-size-eq0.false)
    (one_line-all self.held c.requires.one)
    (subst (λ l. text ≡ encode_utf8_all (lossy_chars l)) c.bytes.ensures c.in_ok-text.ensures.text)
    (ap (λ l. unread_bytes l self.ended device) c.pass.ensures ∙ ap (λ n. unread_bytes (drop n self.held) self.ended device) (ap length c.bytes-size.ensures))
