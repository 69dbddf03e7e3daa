use Rattle.std.proofs.Common.{ap, sym, ◌∙◌}
use Rattle.std.specs.Str.{chars}
use Rattle.tcl_arguments.specs.WordAt.{word}
use Rattle.tcl_meaning.specs.Channels.{read_page}
use Rattle.tcl_meaning.specs.Value.{fail}
use Rattle.tcl_channels.proofs.NameLemmas.{orders_of}
use Rattle.tcl_channels.proofs.ReadLemmas.{read_usage, read_one_is, read_two_is}
use Rattle.tcl_channels.proofs.input.read_told.Goals as goal

pub returns-then-words-eq1 : goal.returns-then-words-eq1
returns-then-words-eq1 c =
    orders_of _ (read_page c.args.dialect c.args.words.now) _ c.read_all.result (read_one_is c.args.dialect c.args.words.now _ c.if-words-eq1.true (ap chars c.as_str.ensures.value ∙ c.in_ok-channel.ensures.text)) c.read_all.ensures

pub returns-then-words-ne2 : goal.returns-then-words-ne2
returns-then-words-ne2 c = read_usage c.args.dialect c.args.words.now c.if-words-eq1.false c.if-words-ne2.true ∙ ap (λ d. fail d) (sym c.in_ok-wrong_words.ensures)

pub returns : goal.returns
returns c =
    orders_of _ (read_page c.args.dialect c.args.words.now) _ c.read_two.result
    (read_two_is c.args.dialect c.args.words.now _ _ c.if-words-ne2.false (ap chars c.as_str-2.ensures.value ∙ c.in_ok-first.ensures.text)
    (ap chars c.as_str-3.ensures.value ∙ c.in_ok-second.ensures.text ∙ ap (λ ws. word ws 1) c.text_at-2.ensures.same))
    c.read_two.ensures
