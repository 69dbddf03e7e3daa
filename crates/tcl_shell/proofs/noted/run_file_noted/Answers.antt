use Rattle.std.proofs.Common.{ap, ◌∙◌}
use Rattle.std.specs.Str.{chars}
use Rattle.tcl_shell.specs.Lines.{told}
use Rattle.tcl_shell.specs.Program.{devices}
use Rattle.tcl_chan.specs.Newlines.{joined_newlines}
use Rattle.tcl_shell.proofs.ProgramLemmas.{unread_file, bad_file, refused_file, read_file}
use Rattle.tcl_shell.proofs.noted.run_file_noted.Goals as goal

pub returns-in_default : goal.returns-in_default
returns-in_default g c =
    let says = c.say.ensures in
    unread_file c.args.config.dialect c.args.budget c.args.words.now c.args.file _ _ _ c.requires c.in_default.is (ap (told g.R.Input.to_come g.R.Input.failed_calls) says.input) (ap (told g.W.Output.written g.W.Output.failed_calls) says.out) says.said

pub returns-in_default-from_utf8 : goal.returns-in_default-from_utf8
returns-in_default-from_utf8 g c =
    let says = c.say-in_default-from_utf8.ensures in
    bad_file c.args.config.dialect c.args.budget c.args.words.now c.args.file _ _ _ c.in-Some.bytes c.requires c.in-Some.is c.in_default-from_utf8.ensures.cases.0 (ap (told g.R.Input.to_come g.R.Input.failed_calls) says.input) (ap (told g.W.Output.written g.W.Output.failed_calls) says.out) says.said

pub returns-in_default-script_of : goal.returns-in_default-script_of
returns-in_default-script_of g c =
    let tells = c.tell.ensures in
    refused_file c.args.config.dialect c.args.budget c.args.words.now c.args.file _ _ c.in-Some.bytes _ c.in-Some.is c.in-Ok.ensures.cases.1 (ap (told g.R.Input.to_come g.R.Input.failed_calls) tells.input) (ap (told g.W.Output.written g.W.Output.failed_calls) tells.out) tells.status tells.says

pub returns : goal.returns
returns g c =
    let tells = c.tell-2.ensures in
    let text = c.in-Ok.ensures.cases in
    let new = c.run_noted-outcome.new in
    let script = c.as_str.ensures ∙ c.in-Ok-script_of.ensures ∙ ap (λ t. joined_newlines (chars t)) text.0 in
    read_file c.args.config.dialect c.args.budget c.args.words.now c.args.file _ _ c.in-Some.bytes _ _ c.run_noted-outcome.result (devices g.R.Input.to_come g.R.Input.failed_calls g.W.Output.written g.W.Output.failed_calls g.E.Output.written g.E.Output.failed_calls new.reader new.out new.err) c.in-Some.is text.1 script
    (ap (told g.R.Input.to_come g.R.Input.failed_calls) tells.input) (ap (told g.W.Output.written g.W.Output.failed_calls) tells.out) c.run_noted-outcome.ensures.report c.run_noted-outcome.ensures.failures tells.status tells.says
