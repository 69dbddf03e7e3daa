use Rattle.std.proofs.Common.{◌≡◌, ap, sym, ◌∙◌, ◌++◌, map as each, rules}
use Rattle.std.proofs.lemmas.Fn.{always_returns_same}
use Rattle.std.proofs.lemmas.List.{append-nil}
use Rattle.std.proofs.lemmas.List.Sorted.{ranks_by}
use Rattle.std.specs.Cmp.Lexicographic.{nat_list_cmp_total}
use Rattle.std.specs.FinMap as map
use Rattle.std.specs.Rc.{rc_str_bytes}
use Rattle.tcl_names.specs.Named.{text_of, by_text}
use Rattle.tcl_names.proofs.ByHash.{before, entries_sorted}
use Rattle.tcl_names.proofs.hashed.HashedNames.entries.Goals as goal

pub returns : goal.returns
returns g c =
    let up = c.sort_unstable_by.ensures.sorted before (ranks_by nat_list_cmp_total (λ e. rc_str_bytes e.0)) (always_returns_same _ _ _ (λ a r f k. search rules)) in
    let shown = each (λ e. (text_of e.0, e.1.now)) c.loop-name.entries.items in
    let all : shown ≡ by_text (λ v. v) c.self.inside.map.entries =
    sym (append-nil _) ∙ ap (λ es. shown ++ by_text (λ v. v) es) (sym (c.in-None.ensures).steps.0) ∙ c.loop-name.invariant
    ∙ ap (by_text (λ v. v)) (c.into_iter-name-iterator.ensures.into_iter_gives ∙ c.iter-name-items.ensures.rest) in
    entries_sorted (λ v. v) (λ v. v.now) c.self.inside.map.entries c.loop-name.entries.items c.sort_unstable_by.new.self.items c.iter-name-items.ensures.unique all c.sort_unstable_by.ensures.permutation up
    ∙ ap map.entries c.self.view_is
