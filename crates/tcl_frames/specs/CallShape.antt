-- How a frame is stored, without its variables.
use Rattle.std.specs.FinMap as map
use Rattle.tcl_meaning.specs.Frames.{Frame}
use Rattle.tcl_frames.specs.declared.stack.Call.TheInside as call

abbrev pub frame_of : call.Inside → Frame
frame_of c = record { caller = c.caller; level = c.level; variables = map.empty; links = c.links }
