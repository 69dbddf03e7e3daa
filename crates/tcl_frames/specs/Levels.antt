-- Levels, as the definitions see them.
use Rattle.tcl_meaning.specs.Frames as frames
use Rattle.tcl_frames.specs.declared.level.Level.{Level}
use Rattle.tcl_frames.specs.declared.level.Level.TheVariants as level

abbrev pub level_of : Level → frames.Level
level_of (level.Up n) = frames.up n
level_of (level.At n) = frames.at n
