use Rattle.std.proofs.Common.{ap, sym, ◌∙◌}
use Rattle.std.specs.Str.{chars}
use Rattle.tcl_meaning.specs.Channels.{channel_of, eof_page, said_ended}
use Rattle.tcl_meaning.specs.Value.{fail, judged, ◌>>=◌}
use Rattle.tcl_channels.specs.Orders.{channel_at}
use Rattle.tcl_channels.proofs.NameLemmas.{tells_on, orders_of}
use Rattle.tcl_channels.proofs.ReadLemmas.{eof_usage, eof_one}
use Rattle.tcl_channels.proofs.input.eof_told.Goals as goal

pub returns-then-words-ne1 : goal.returns-then-words-ne1
returns-then-words-ne1 c = eof_usage c.args.words.now c.if-words-ne1.true ∙ ap (λ d. fail d) (sym c.in_ok-wrong_words.ensures)

pub returns : goal.returns
returns c =
    orders_of (λ channel. said_ended (channel_at channel)) (eof_page c.args.words.now) _ c.channel_named.result
    (eof_one c.args.words.now c.if-words-ne1.false ∙ ap (λ n. judged (channel_of n) >>= said_ended) (sym (ap chars c.as_str.ensures.value ∙ c.in_ok-name.ensures.text)))
    (tells_on channel_at (judged (channel_of (chars c.as_str.result.now))) said_ended c.channel_named.result c.channel_named.ensures)
