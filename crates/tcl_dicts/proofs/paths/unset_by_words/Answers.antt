use Rattle.std.proofs.Common.{◌≡◌, ◌≤◌, ◌+◌, ◌-◌, [], length, refl, subst, sym, ◌∙◌, arith}
use Rattle.std.proofs.lemmas.List.{get_or_default}
use Rattle.tcl_pages.specs.Answers.{Answer}
use Rattle.tcl_pages.specs.Texts.{Text}
use Rattle.tcl_values.specs.Lists.{Leaves}
use Rattle.tcl_dicts.proofs.Updating.{unset_is}
use Rattle.tcl_dicts.proofs.paths.unset_by_words.Goals as goal

pub returns-clause-done : goal.returns-clause-done
returns-clause-done c =
    let ws = c.args.words.now in
    let n = length ws - 1 in
    let more : 1 ≤ n = omega arith in
    let all : n + 1 ≡ length ws = omega arith in
    let last = c.in_ok-key.ensures ∙ get_or_default ws n _ [] (omega arith) in
    let first = c.in_ok-first.ensures ∙ get_or_default ws 0 _ [] (omega arith) in
    subst (λ (m : Answer Text). Leaves c.unset_under.new.value m c.unset_under.result)
    (sym (unset_is c.args.value.now c.in_ok-first.first c.in_ok-key.key ws ws c.in_ok-keys.keys.items n more all refl last first c.in_ok-keys.ensures)) c.unset_under.ensures.done
