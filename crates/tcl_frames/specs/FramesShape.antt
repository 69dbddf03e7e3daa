-- How all frames are stored.
use Rattle.std.specs.Prelude.{◌≡◌, length}
use Rattle.tcl_frames.specs.Standing.{Standing, joined}
use Rattle.tcl_frames.specs.declared.frames.Frames.TheInside.{Inside}

abbrev pub all_of : Inside → Standing
all_of f = joined f.stack f.variables

abbrev pub IsEven : Inside → Type 0
IsEven f = length f.stack.frames ≡ length f.variables
