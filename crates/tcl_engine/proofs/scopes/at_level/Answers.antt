use Rattle.std.proofs.Common.{refl}
use Rattle.tcl_frames.specs.Levels.{level_of}
use Rattle.tcl_meaning.specs.Effects.{At}
use Rattle.tcl_engine.proofs.Scoping.{at_entered, at_can}
use Rattle.tcl_engine.proofs.scopes.at_level.Goals as goal

pub returns-in-Some-clause-entered : goal.returns-in-Some-clause-entered
returns-in-Some-clause-entered c = at_entered (At (level_of c.args.level)) _ c.in-Some.frame c.args.frames.now c.activate.new.self refl c.in-Some.ensures.found c.activate.ensures.active

pub returns-in-Some-clause-can : goal.returns-in-Some-clause-can
returns-in-Some-clause-can c = λ cs channels units. at_can c.in-Some.frame c.activate.result c.args.frames.now c.activate.new.self c.activate.ensures.there c.activate.ensures.active
