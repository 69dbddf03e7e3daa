use Rattle.tcl_code.specs.Shown.{instructions, no_texts}
use Rattle.tcl_code.proofs.Found.{started_at, started_sound, started_closed}
use Rattle.tcl_code.proofs.search.started.Goals as goal

pub returns-clause-start : goal.returns-clause-start
returns-clause-start c = started_at _ _ _ _ _ _ c.bare.ensures c.in_ok-search.ensures.none c.in_ok-search.ensures.pending c.in_ok-_fits.ensures

pub returns-clause-sound : goal.returns-clause-sound
returns-clause-sound c = λ code. started_sound _ _ _ _ _ _ c.bare.ensures c.in_ok-search.ensures.none c.in_ok-search.ensures.pending c.in_ok-_fits.ensures (instructions no_texts code)

pub returns-clause-closed : goal.returns-clause-closed
returns-clause-closed c = λ code. started_closed _ _ _ _ _ _ c.bare.ensures c.in_ok-search.ensures.none c.in_ok-search.ensures.pending c.in_ok-_fits.ensures (instructions no_texts code)
