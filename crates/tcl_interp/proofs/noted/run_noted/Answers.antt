use Rattle.std.proofs.Common.{Bor, List, ℕ, false, map as each, option_map, refl}
use Rattle.std.specs.Str.{chars}
use Rattle.tcl_chan.specs.Characters.{input_chars}
use Rattle.tcl_meaning.specs.Run.{argument_variables, first_channels, first_store}
use Rattle.tcl_interp.proofs.Ending.{begun_part}
use Rattle.tcl_interp.proofs.noted.run_noted.Goals as goal

pub returns-in_default-clause-report : goal.returns-in_default-clause-report
returns-in_default-clause-report g c =
    let input = option_map input_chars (g.R.Input.to_come c.args.reader.now) in
    let channels = first_channels input (g.W.Output.written c.args.out.now) (g.E.Output.written c.args.err.now) in
    let args = each {A = Bor (List ℕ)} {B = List ℕ} (λ a. chars a.now) c.args.args.now in
    record {
      memory = refl;
      part = record { left = input; met_end = false; holds = begun_part c.args.config.dialect (chars c.args.script.now) (record { store = first_store (argument_variables args); channels = channels; units = c.args.budget }) };
    }
