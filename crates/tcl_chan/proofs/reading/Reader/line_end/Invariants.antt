use Rattle.std.proofs.Common.{◌≡◌, ◌≤◌, cond, length, ◌+◌, ◌-◌, ◌^◌}
use Rattle.memchr.specs.Find.{Passes, Nowhere, is_byte}
use Rattle.tcl_chan.specs.Devices.{unread_bytes, StaysLeft}
use Rattle.tcl_chan.proofs.reading.Reader.line_end.Given as goal

abbrev pub invariant-search : goal.invariant-search
invariant-search g l =
    (l.self.met_end ≡ l.fn.self.met_end)
    × (g.R.Input.failed_calls l.input ≡ g.R.Input.failed_calls l.fn.input)
    × StaysLeft (unread_bytes l.fn.self.held l.fn.self.ended (g.R.Input.to_come l.fn.input))
    (unread_bytes l.self.held l.self.ended (g.R.Input.to_come l.input))
    × (l.searched ≤ length l.self.held)
    × Nowhere (Passes (is_byte 10) l.self.held) 0 l.searched

abbrev pub decreases-search : goal.decreases-search
decreases-search g l = 2 ^ 63 - length l.self.held + cond l.self.ended 0 1
