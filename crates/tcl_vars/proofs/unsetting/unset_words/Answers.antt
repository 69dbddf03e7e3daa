use Rattle.std.proofs.Common.{◌≡◌, List, drop, sym, subst, ◌∙◌}
use Rattle.tcl_meaning.specs.VariablePages.{behind_dashes}
use Rattle.tcl_pages.specs.Texts.{Text}
use Rattle.tcl_vars.proofs.UnsetLemmas.{none_named, quiet_ends, loud_ends}
use Rattle.tcl_vars.proofs.unsetting.unset_words.Goals as goal

pub returns-then-words-eq0 : goal.returns-then-words-eq0
returns-then-words-eq0 c = none_named c.args.words.now c.args.frames.now _ c.if-words-eq0.true c.in_ok-nothing.ensures

pub returns-then-branch : goal.returns-then-branch
returns-then-branch c =
    let n = c.in_ok-first.first in
    quiet_ends c.args.words.now c.first_name.new.words n c.args.frames.now c.unset_quietly.new.frames c.unset_quietly.result c.if-words-eq0.false (sym c.if-branch.true ∙ c.in_ok-says.ensures.says)
    (c.first_name.ensures.words ∙ c.says.ensures.words) (subst (λ (vs : List Text). drop n vs ≡ behind_dashes (drop 1 vs)) c.says.ensures.words c.in_ok-first.ensures.names) c.unset_quietly.ensures

pub returns : goal.returns
returns c =
    let n = c.in_ok-first-2.first in
    loud_ends c.args.words.now c.first_name-2.new.words n c.args.frames.now c.unset_names.new.frames c.unset_names.result c.if-words-eq0.false (sym c.if-branch.false ∙ c.in_ok-says.ensures.says)
    (c.first_name-2.ensures.words ∙ c.says.ensures.words) (subst (λ (vs : List Text). drop n vs ≡ behind_dashes vs) c.says.ensures.words c.in_ok-first-2.ensures.names) c.unset_names.ensures
