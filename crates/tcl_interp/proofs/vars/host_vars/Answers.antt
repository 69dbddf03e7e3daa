use Rattle.std.proofs.Common.{◌≡◌, IfOk, ap, subst}
use Rattle.std.specs.FinMap as map
use Rattle.tcl_frames.specs.Standing.{store_of}
use Rattle.tcl_interp.specs.Host.{told_among, vars_shown}
use Rattle.tcl_interp.proofs.vars.host_vars.Goals as goal

pub returns : goal.returns
returns c =
    subst (λ told. IfOk c.vars_among.result (λ vars. vars_shown vars.items ≡ told)) (ap (λ names. told_among (store_of map.empty c.args.frames.now) (map.entries names)) (c.in_ok-names.ensures map.empty)) c.vars_among.ensures
