use Rattle.std.proofs.Common.{sym}
use Rattle.std.specs.Str.{chars}
use Rattle.tcl_control.proofs.SwitchChoices.{no_option}
use Rattle.tcl_control.proofs.switching.option.Goals as goal

pub returns : goal.returns
returns c = no_option (chars c.args.word.now) _ (sym c.if-is_text.ensures) (sym c.if-is_text-2.ensures) c.in_ok-message.ensures
