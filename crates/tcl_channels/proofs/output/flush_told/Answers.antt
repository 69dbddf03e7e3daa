use Rattle.std.proofs.Common.{ap, sym, ◌∙◌}
use Rattle.std.specs.Str.{chars}
use Rattle.tcl_meaning.specs.Asking.{done}
use Rattle.tcl_meaning.specs.Channels.{output_of, flush_page}
use Rattle.tcl_meaning.specs.Completions.{nothing}
use Rattle.tcl_meaning.specs.Value.{fail, judged, ◌>>=◌}
use Rattle.tcl_channels.specs.Shown.{output_at}
use Rattle.tcl_channels.proofs.NameLemmas.{tells_on, orders_of}
use Rattle.tcl_channels.proofs.WordLemmas.{flush_usage, flush_one}
use Rattle.tcl_channels.proofs.output.flush_told.Goals as goal

pub returns-then-words-ne1 : goal.returns-then-words-ne1
returns-then-words-ne1 c = flush_usage c.args.words.now c.if-words-ne1.true ∙ ap (λ d. fail d) (sym c.in_ok-wrong_words.ensures)

pub returns : goal.returns
returns c =
    orders_of (λ to. done nothing) (flush_page c.args.words.now) _ c.output_named.result
    (flush_one c.args.words.now c.if-words-ne1.false ∙ ap (λ n. judged (output_of n) >>= (λ o. done nothing)) (sym (ap chars c.as_str.ensures.value ∙ c.in_ok-name.ensures.text)))
    (tells_on output_at (judged (output_of (chars c.as_str.result.now))) (λ o. done nothing) c.output_named.result c.output_named.ensures)
