use Rattle.std.proofs.Common.{Ok, length, ap, sym, ◌∙◌, arith}
use Rattle.std.specs.Str.{chars}
use Rattle.tcl_arguments.specs.WordAt.{word}
use Rattle.tcl_channels.specs.Orders.{put_of}
use Rattle.tcl_channels.proofs.NameLemmas.{orders_of}
use Rattle.tcl_channels.proofs.WordLemmas.{puts_none, puts_many, puts_one, puts_two_is, puts_three_is}
use Rattle.tcl_meaning.specs.Channels.{puts_page, put_text, line_of}
use Rattle.tcl_meaning.specs.State.{stdout}
use Rattle.tcl_channels.proofs.output.put_told.Goals as goal

pub returns-then-words-eq0 : goal.returns-then-words-eq0
returns-then-words-eq0 c = orders_of put_of (puts_page c.args.words.now) _ c.puts_usage.result (puts_none c.args.words.now c.if-words-eq0.true) c.puts_usage.ensures

pub returns-then-words-gt3 : goal.returns-then-words-gt3
returns-then-words-gt3 c = orders_of put_of (puts_page c.args.words.now) _ c.puts_usage-then-words-gt3.result (puts_many c.args.words.now c.if-words-gt3.true) c.puts_usage-then-words-gt3.ensures

pub returns-then-words-eq1 : goal.returns-then-words-eq1
returns-then-words-eq1 c =
    let s = ap (λ ws. length ws) c.text_at.ensures.same in
    let h = c.if-words-eq1.true in
    puts_one c.args.words.now (omega arith) ∙ ap (λ t. put_text (Ok stdout) (line_of t)) (sym c.in_ok-first.ensures.text)

pub returns-then-words-eq2 : goal.returns-then-words-eq2
returns-then-words-eq2 c =
    let s = ap (λ ws. length ws) c.text_at.ensures.same in
    let s2 = ap (λ ws. length ws) c.text_at-2.ensures.same in
    let h = c.if-words-eq2.true in
    orders_of put_of (puts_page c.args.words.now) _ c.put_two.result
    (puts_two_is c.args.words.now _ _ (omega arith) (ap chars c.as_str.ensures.value ∙ c.in_ok-first.ensures.text) (c.in_ok-second.ensures.text ∙ ap (λ ws. word ws 1) c.text_at.ensures.same))
    c.put_two.ensures

pub returns : goal.returns
returns c =
    let s = ap (λ ws. length ws) c.text_at.ensures.same in
    let s2 = ap (λ ws. length ws) c.text_at-2.ensures.same in
    let a = c.if-words-eq0.false in
    let b = c.if-words-gt3.false in
    let d = c.if-words-eq1.false in
    let h = c.if-words-eq2.false in
    orders_of put_of (puts_page c.args.words.now) _ c.put_three.result
    (puts_three_is c.args.words.now _ _ _ (omega arith) (ap chars c.as_str-2.ensures.value ∙ c.in_ok-first.ensures.text)
    (ap chars c.as_str-3.ensures.value ∙ c.in_ok-second.ensures.text ∙ ap (λ ws. word ws 1) c.text_at.ensures.same)
    (c.in_ok-text.ensures.text ∙ ap (λ ws. word ws 2) (c.text_at-2.ensures.same ∙ c.text_at.ensures.same)))
    c.put_three.ensures
