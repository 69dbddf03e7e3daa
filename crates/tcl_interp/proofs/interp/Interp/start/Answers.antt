use Rattle.std.proofs.Common.{◌≡◌, refl, sym, ap, subst, ◌∙◌}
use Rattle.std.specs.Str.{chars}
use Rattle.tcl_steps.specs.Comes.{state_of}
use Rattle.tcl_vm.specs.Machines.{Begins}
use Rattle.tcl_interp.specs.Interp.{Shows, standing_at}
use Rattle.tcl_interp.specs.Pausing.{machine_over}
use Rattle.tcl_interp.proofs.Parts.{begun_goes}
use Rattle.tcl_interp.proofs.interp.Interp.start.Goals as goal

pub invariant_of-result : goal.invariant_of-result
invariant_of-result c =
    let parts = c.into_parts-frames.result in
    begun_goes c.interp.inside.codes (chars c.args.script.now) c.in-Ok.paused parts.0 parts.1 (λ channels n. c.in-Ok.ensures.begins (state_of parts.1 channels n parts.0))

pub returns-in-Ok-clause-starts : goal.returns-in-Ok-clause-starts
returns-in-Ok-clause-starts c =
    let parts = c.into_parts-frames.result in
    let given = c.into_parts-frames.ensures in
    record {
      dialect = given.dialect ∙ c.in-Ok.ensures.dialect ∙ ap (λ (s : Shows). s.dialect) c.interp.view_is;
      frames = given.frames ∙ ap standing_at (ap (λ (s : Shows). s.globals) c.interp.view_is);
      commands = given.commands ∙ ap (λ (s : Shows). s.commands) c.interp.view_is;
      stage = refl;
      begins = λ channels n. subst (λ d. Begins d (chars c.args.script.now) 1 (machine_over c.in-Ok.paused parts.0 parts.1 channels n)) (sym (given.dialect ∙ c.in-Ok.ensures.dialect)) (c.in-Ok.ensures.begins (state_of parts.1 channels n parts.0));
    }
