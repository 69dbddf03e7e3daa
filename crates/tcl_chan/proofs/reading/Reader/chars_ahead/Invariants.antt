use Rattle.std.proofs.Common.{◌≡◌, ◌≤◌, cond, length, ◌+◌, ◌-◌, ◌*◌, ◌^◌}
use Rattle.std.specs.String.{string_bytes}
use Rattle.tcl_chan.specs.Devices.{unread_bytes}
use Rattle.tcl_chan.proofs.Takes.{Kept}
use Rattle.tcl_chan.proofs.reading.Reader.chars_ahead.Given as goal

abbrev pub invariant-chars : goal.invariant-chars
invariant-chars g l =
    (l.self.met_end ≡ l.fn.self.met_end)
    × (g.R.Input.failed_calls l.input ≡ g.R.Input.failed_calls l.fn.input)
    × (l.size ≤ length l.self.held)
    × (l.left ≤ l.fn.count)
    × Kept (unread_bytes l.fn.self.held l.fn.self.ended (g.R.Input.to_come l.fn.input)) l.self.held l.self.ended (g.R.Input.to_come l.input)
    l.fn.count l.left (string_bytes l.text) l.size

abbrev pub decreases-chars : goal.decreases-chars
decreases-chars g l = 2 * (2 ^ 63 - length l.self.held) + (length l.self.held - l.size) + cond l.self.ended 0 1
