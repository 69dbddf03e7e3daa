use Rattle.std.proofs.Common.{ap, sym, ◌∙◌}
use Rattle.std.proofs.lemmas.Result.{err_from_is_err_and}
use Rattle.std.specs.Str.{chars}
use Rattle.tcl_channels.specs.Orders.{channel_at}
use Rattle.tcl_meaning.specs.Channels.{channel_of, input_of}
use Rattle.tcl_meaning.specs.Value.{give, fail}
use Rattle.tcl_channels.proofs.NameLemmas.{found_input, output_only, input_failed}
use Rattle.tcl_channels.proofs.names.input_named.Goals as goal

pub returns-in_err-channel : goal.returns-in_err-channel
unfolding input_of
returns-in_err-channel c =
    let p = err_from_is_err_and c.from_residual.result c.from_residual.ensures.1 in
    rw (p.1, p.2) (input_failed (chars c.args.name.now) _ c.in_err-channel.ensures)

pub returns-in-Input : goal.returns-in-Input
unfolding input_of
returns-in-Input c = found_input (channel_of (chars c.args.name.now)) (chars c.args.name.now) (c.in_ok-channel.ensures ∙ ap (λ ch. give (channel_at ch)) c.in-Input.is)

pub returns-in_ok-about-in-Output : goal.returns-in_ok-about-in-Output
unfolding input_of
returns-in_ok-about-in-Output c =
    output_only (channel_of (chars c.args.name.now)) (chars c.args.name.now) _ (c.in_ok-channel.ensures ∙ ap (λ ch. give (channel_at ch)) c.in-Output.is) ∙ ap (λ d. fail d) (sym c.in_ok-about-in-Output.ensures)
