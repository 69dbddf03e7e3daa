use Rattle.std.proofs.Common.{Bor, List, ℕ, ap, map, sym, ◌∙◌}
use Rattle.std.specs.Str.{chars}
use Rattle.std.specs.String.{string_bytes}
use Rattle.tcl_shell.specs.Lines.{message_line, told}
use Rattle.tcl_shell.specs.Program.{devices}
use Rattle.tcl_where.specs.Where.{is_file}
use Rattle.tcl_where.proofs.Running.{runs_behind}
use Rattle.tcl_where.proofs.program.tool.Goals as goal

pub returns : goal.returns
returns g c =
    let at = devices g.R.Input.to_come g.R.Input.failed_calls g.W.Output.written g.W.Output.failed_calls g.E.Output.written g.E.Output.failed_calls in
    let ran = c.run_file_noted-status.new in
    let says = c.say_lines.ensures in
    runs_behind (map {A = Bor (List ℕ)} {B = List ℕ} (λ word. word.now) c.args.words.now) _ c.run_file_noted-status.result _ _ (sym c.is_file.ensures.answers ∙ c.if-not-is_file.false)
    (at ran.reader ran.out ran.err) (at c.say_lines.new.reader c.say_lines.new.out c.say_lines.new.err)
    (ap (told g.R.Input.to_come g.R.Input.failed_calls) says.input) (ap (told g.W.Output.written g.W.Output.failed_calls) says.out) c.run_file_noted-status.ensures _ says.said
