use Rattle.std.proofs.Common.{rules, ℕ, List, [], option_map, refl, subst}
use Rattle.tcl_chan.specs.Characters.{input_chars}
use Rattle.tcl_channels.specs.Shown.{channels_of}
use Rattle.tcl_chars.specs.Texts.{literal}
use Rattle.tcl_meaning.specs.Effects.{Got}
use Rattle.tcl_meaning.specs.Frames.{global_frame}
use Rattle.tcl_meaning.specs.Pages.{first_commands}
use Rattle.tcl_meaning.specs.Run.{args_put, first_channels, first_store}
use Rattle.tcl_interp.specs.Interp.{remains_at}
use Rattle.tcl_shell.specs.Ends.{EndsSo}
use Rattle.tcl_shell.specs.Session.{most_texts, session}
use Rattle.tcl_shell.proofs.Sessions.{nothing_begun, tells_so, begins_so}
use Rattle.tcl_shell.proofs.run.session_with.Goals as goal

pub returns-in_default-clause-tells : goal.returns-in_default-clause-tells
returns-in_default-clause-tells g c =
    let input = option_map input_chars (g.R.Input.to_come c.args.reader.now) in
    let channels = first_channels input (g.W.Output.written c.args.out.now) (g.E.Output.written c.args.err.now) in
    let variables = args_put (literal "tclint") [] in
    record { globals = global_frame variables; commands = first_commands; input = input; met_end = channels.met_end; ends = nothing_begun c.args.config.dialect most_texts (record { store = first_store variables; channels = channels; units = c.args.budget }) }

pub returns-clause-tells : goal.returns-clause-tells
returns-clause-tells g c =
    let channels = channels_of g.R.Input.to_come g.W.Output.written g.E.Output.written in
    let first = first_channels (option_map input_chars (g.R.Input.to_come c.args.reader.now)) (g.W.Output.written c.args.out.now) (g.E.Output.written c.args.err.now) in
    let new = c.turns-end.new in
    let shows = c.in-Ok.interp in
    let told = c.in-Ok.ensures in
    let same = begins_so c.args.config.dialect shows c.args.budget (channels c.new-world.result) first told.dialect told.globals told.commands (search rules) (search rules) (search rules) (search rules) in
    let ends = subst (λ (x : Got (Unit {0})). EndsSo c.turns-end.result x (remains_at g.R.Input.to_come g.W.Output.written g.E.Output.written new.interp new.world)) same c.turns-end.ensures.ends in
    tells_so c.close.result (session c.args.config.dialect first c.args.budget) new.interp.globals new.interp.commands (channels c.close.new.world) _ _ (search rules) (search rules) (c.close.ensures.ends (session c.args.config.dialect first c.args.budget) new.interp.globals new.interp.commands ends)
