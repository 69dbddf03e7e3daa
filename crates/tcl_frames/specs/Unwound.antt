-- What is left of frames when a run is broken off.
use Rattle.std.specs.Prelude.{take}
use Rattle.tcl_frames.specs.Standing.{Standing}

-- the global frame alone, which is active
abbrev pub unwound : Standing → Standing
unwound f = record { frames = take 1 f.frames; active = 0 }
