use Rattle.std.specs.Str.{chars}
use Rattle.tcl_procs.proofs.LevelLemmas.{level_found, no_frame, no_level}
use Rattle.tcl_procs.proofs.levels.find_level.Goals as goal

pub returns-in_default : goal.returns-in_default
returns-in_default c = λ cs. no_level (chars c.args.word.now) c.args.frames.now cs c.in_default.ensures c.levels_fit.ensures.up c.levels_fit.ensures.at

pub returns-in-Some-at_level : goal.returns-in-Some-at_level
returns-in-Some-at_level c = λ cs. level_found (chars c.args.word.now) c.args.frames.now cs c.in-Some.level c.at_level.result c.in-Some-at_level.field-0 c.in-Some.ensures c.at_level.ensures.found c.in-Some-at_level.is

pub returns-in-None : goal.returns-in-None
returns-in-None c = λ cs. no_frame (chars c.args.word.now) c.args.frames.now cs c.in-Some.level c.at_level.result c.in-Some.ensures c.at_level.ensures.found c.in-None.is
