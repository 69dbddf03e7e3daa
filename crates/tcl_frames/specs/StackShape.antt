-- How frames are stored, without their variables.
use Rattle.tcl_frames.specs.Standing.{Standing, IsStanding}
use Rattle.tcl_frames.specs.declared.stack.Stack.TheInside as stack

abbrev pub standing_of : stack.Inside → Standing
standing_of s = record { frames = s.calls.items; active = s.active }

abbrev pub IsStack : stack.Inside → Type 0
IsStack s = IsStanding (standing_of s)
