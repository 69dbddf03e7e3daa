use Rattle.std.proofs.Common.{ap, sym, ◌∙◌}
use Rattle.std.specs.Str.{chars}
use Rattle.tcl_arguments.specs.WordAt.{word}
use Rattle.tcl_meaning.specs.Channels.{gets_page}
use Rattle.tcl_meaning.specs.Value.{fail}
use Rattle.tcl_channels.proofs.NameLemmas.{orders_of}
use Rattle.tcl_channels.proofs.GetsLemmas.{gets_usage, gets_one, gets_two}
use Rattle.tcl_channels.proofs.gets.gets_told.Goals as goal

pub returns-then-words-eq1 : goal.returns-then-words-eq1
returns-then-words-eq1 c = orders_of _ (gets_page c.args.words.now) _ c.told.result (gets_one c.args.words.now _ c.if-words-eq1.true (ap chars c.as_str.ensures.value ∙ c.in_ok-channel.ensures.text)) c.told.ensures

pub returns-then-words-ne2 : goal.returns-then-words-ne2
returns-then-words-ne2 c = gets_usage c.args.words.now c.if-words-eq1.false c.if-words-ne2.true ∙ ap (λ d. fail d) (sym c.in_ok-wrong_words.ensures)

pub returns : goal.returns
returns c =
    orders_of _ (gets_page c.args.words.now) _ c.told-2.result
    (gets_two c.args.words.now _ _ c.if-words-ne2.false (ap chars c.as_str-2.ensures.value ∙ c.in_ok-channel-2.ensures.text) (c.in_ok-name.ensures.text ∙ ap (λ ws. word ws 1) c.text_at-2.ensures.same))
    c.told-2.ensures
