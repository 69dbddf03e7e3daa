use Rattle.std.proofs.Common.{Some, option_map, sym, ap, ◌∙◌}
use Rattle.std.specs.FinMap as map
use Rattle.tcl_frames.specs.Seen.{variable_seen}
use Rattle.tcl_interp.specs.Host.{Told, told_of}
use Rattle.tcl_interp.proofs.vars.told_under.Goals as goal

pub returns-in_ok-host_var-in-Some : goal.returns-in_ok-host_var-in-Some
returns-in_ok-host_var-in-Some c =
    ap (λ (told : Told). Some told) c.in_ok-host_var-in-Some.ensures ∙ ap (option_map told_of) (ap (option_map variable_seen) (sym c.in-Some.is) ∙ c.seen_here.ensures map.empty)

pub returns-in-None : goal.returns-in-None
returns-in-None c = ap (option_map told_of) (ap (option_map variable_seen) (sym c.in-None.is) ∙ c.seen_here.ensures map.empty)
