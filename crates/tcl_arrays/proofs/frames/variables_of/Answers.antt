use Rattle.std.proofs.Common.{◌≡◌, IfOk, map as each, option_map, sym, ap, subst, ◌∙◌}
use Rattle.std.specs.FinMap as map
use Rattle.tcl_arrays.proofs.PageLemmas.{whatever_commands}
use Rattle.tcl_chars.specs.Texts.{text_of}
use Rattle.tcl_frames.specs.Standing.{store_of}
use Rattle.tcl_list.specs.Written.{written}
use Rattle.tcl_meaning.specs.SeenPages.{variables_among}
use Rattle.tcl_arrays.proofs.frames.variables_of.Goals as goal

pub returns : goal.returns
returns c cs =
    let f = c.args.frames.now in
    let p = option_map text_of c.args.pattern.now in
    subst (λ t. IfOk c.list_of.result (λ v. v ≡ t))
    (ap (λ l. written (each text_of l)) c.deref.ensures.value
    ∙ ap written (c.in_ok-found.ensures ∙ sym (whatever_commands cs f p (map.entries c.in_ok-names.names)) ∙ ap (λ m. variables_among (store_of cs f) p (map.entries m)) (c.in_ok-names.ensures cs)))
    c.list_of.ensures
