use Rattle.std.proofs.Common.{ap, sym, ◌∙◌, ◌++◌, map as each}
use Rattle.std.proofs.lemmas.List.{append-nil}
use Rattle.tcl_names.specs.Named.{text_of, by_text}
use Rattle.tcl_names.proofs.NameMap.entries.Goals as goal

pub returns : goal.returns
returns g c =
    let shown = each (λ e. (text_of e.0, e.1.now)) c.loop-name.entries.items in
    sym (append-nil _) ∙ ap (λ es. shown ++ by_text (λ v. v) es) (sym (c.in-None.ensures).steps.0) ∙ c.loop-name.invariant
    ∙ ap (by_text (λ v. v)) (c.into_iter-name-iterator.ensures.into_iter_gives) ∙ c.iter-name-items.ensures
