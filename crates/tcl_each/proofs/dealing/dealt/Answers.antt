use Rattle.std.proofs.Common.{◌∙◌, Ok, ap, subst, sym}
use Rattle.tcl_arguments.specs.WordAt.{word}
use Rattle.tcl_chars.specs.Answers.{Answers}
use Rattle.tcl_list.specs.Elements.{elements_of}
use Rattle.tcl_each.proofs.DealingLemmas.{one_dealt}
use Rattle.tcl_each.proofs.dealing.dealt.Goals as goal

pub returns-then-branch : goal.returns-then-branch
returns-then-branch c =
    let is = one_dealt c.args.words.now c.if-words-eq3.true (c.in_ok-has_one_name.ensures.one ∙ ap Ok c.if-branch.true) in
    let same = ap (λ ws. elements_of (word ws 1)) c.in_ok-has_one_name.ensures.same in
    subst (λ r. Answers (λ dealt. dealt.items) c.list_at.result r) (same ∙ sym is) c.list_at.ensures.list
