use Rattle.std.proofs.Common.{ap, sym, ◌∙◌, ◌++◌, ◌≡◌, [], map as each}
use Rattle.std.proofs.lemmas.List.{append-nil, nil_from_length}
use Rattle.std.specs.Map.{keys_of}
use Rattle.std.specs.Vec.Iter.{into_iter_items}
use Rattle.tcl_names.specs.Named.{text_of}
use Rattle.tcl_names.proofs.Entries.{names_of}
use Rattle.tcl_names.proofs.hashed.HashedNames.names.Goals as goal

pub returns : goal.returns
returns g c =
    let over : into_iter_items c.loop-name.name-iterator ≡ [] = nil_from_length _ (sym c.loop-name.name-iterator.rest.ok.0 ∙ (c.in-None.ensures).steps.0) in
    sym (append-nil _) ∙ ap (λ es. each text_of c.loop-name.names.items ++ each text_of (keys_of es)) (sym over) ∙ c.loop-name.invariant
    ∙ ap (λ es. each text_of (keys_of es)) c.into_iter-name-iterator.ensures.into_iter_gives.0 ∙ sym (names_of (λ e. e.now) c.in_ok-items.items.items) ∙ ap (each (λ e. e.0)) c.in_ok-items.ensures
