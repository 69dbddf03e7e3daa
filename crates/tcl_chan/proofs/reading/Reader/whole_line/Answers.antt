use Rattle.std.proofs.Common.{subst, ap, take}
use Rattle.std.specs.Rc.{rc_str_bytes}
use Rattle.tcl_chan.specs.Devices.{unread_bytes}
use Rattle.tcl_chan.specs.Ahead.{IsLineOf}
use Rattle.tcl_chan.proofs.Gets.{gets-line, one_line-before, feed_at, stays_itself}
use Rattle.tcl_chan.proofs.reading.Reader.whole_line.Goals as goal

pub returns-clause-line : goal.returns-clause-line
returns-clause-line c device =
    let self = c.args.self.now in
    let place = c.args.place in
    let text = rc_str_bytes c.in_ok-text.text in
    let found = c.requires in
    gets-line (unread_bytes self.held self.ended device) self.held self.ended device (unread_bytes c.pass.new.self self.ended device) place self.met_end text
    (stays_itself (unread_bytes self.held self.ended device)) found.0.high (feed_at self.held place found.1) (one_line-before self.held place found.0.high found.0.before)
    (subst (λ l. IsLineOf (take place l) text) c.bytes.ensures c.in_ok-text.ensures.text)
    (ap (λ l. unread_bytes l self.ended device) c.pass.ensures)
