use Rattle.std.proofs.Common.{ap, sym, ◌∙◌}
use Rattle.std.proofs.lemmas.Result.{err_from_is_err_and}
use Rattle.std.specs.Str.{chars}
use Rattle.tcl_meaning.specs.Channels.{channel_of, output_of}
use Rattle.tcl_meaning.specs.Value.{give, fail}
use Rattle.tcl_channels.specs.Orders.{channel_at}
use Rattle.tcl_channels.proofs.NameLemmas.{found_output, input_only, output_failed}
use Rattle.tcl_channels.proofs.names.output_named.Goals as goal

pub returns-in_err-to : goal.returns-in_err-to
unfolding output_of
returns-in_err-to c =
    let p = err_from_is_err_and c.from_residual.result c.from_residual.ensures.1 in
    rw (p.1, p.2) (output_failed (chars c.args.name.now) _ c.in_err-to.ensures)

pub returns-in-Output : goal.returns-in-Output
unfolding output_of
returns-in-Output c = found_output (channel_of (chars c.args.name.now)) (chars c.args.name.now) _ (c.in_ok-to.ensures ∙ ap (λ ch. give (channel_at ch)) c.in-Output.is)

pub returns-in_ok-about-in-Input : goal.returns-in_ok-about-in-Input
unfolding output_of
returns-in_ok-about-in-Input c =
    input_only (channel_of (chars c.args.name.now)) (chars c.args.name.now) (c.in_ok-to.ensures ∙ ap (λ ch. give (channel_at ch)) c.in-Input.is) ∙ ap (λ d. fail d) (sym c.in_ok-about-in-Input.ensures)
