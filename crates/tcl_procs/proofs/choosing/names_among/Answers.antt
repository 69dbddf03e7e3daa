use Rattle.std.proofs.Common.{Bor, Global, sym, ap, option_map, ◌∷◌, [], ◌++◌, ◌∙◌, rules}
use Rattle.std.specs.Prelude.{◌&&◌}
use Rattle.std.specs.Str.{chars}
use Rattle.std.specs.declared.rc.RcStr.{RcStr}
use Rattle.tcl_chars.specs.Texts.{text_of}
use Rattle.tcl_meaning.specs.Arrays.{name_fits}
use Rattle.tcl_meaning.specs.State.{Command}
use Rattle.tcl_pages.specs.Texts.{Text}
use Rattle.tcl_procs.specs.Looking.{of_kind}
use Rattle.tcl_procs.proofs.LookingLemmas.{name_listed, name_left_out}
use Rattle.tcl_procs.proofs.choosing.names_among.Goals.{then-is_chosen+in_ok-clone+in_ok-push, else-is_chosen}
use Rattle.tcl_procs.proofs.choosing.names_among.Goals as goal

pub loop-name-preserved : goal.loop-name-preserved
loop-name-preserved c =
    let kind = of_kind c.args.procedures in
    let pattern = option_map text_of c.args.pattern.now in
    let view : RcStr Global × Bor Command → Text × Command = λ e. (text_of e.0, e.1.now) in
    let fits = sym (c.is_chosen.ensures ∙ ap (λ (t : Text). kind c.loop-name-item.result.1.now && name_fits pattern t) (ap chars c.as_str.ensures.value)) in
    elim c.if-is_chosen.branch [
      | then-is_chosen+in_ok-clone+in_ok-push w ↦
          name_listed view kind pattern c.args.entries.now c.loop-name.name-index c.loop-name-item.result c.loop-name.found.items c.if-is_chosen.found.items c.loop-name-test.true c.loop-name-item.is
          (fits ∙ w.if-is_chosen.true) (ap (λ v. v.items) w.found-is ∙ w.in_ok-push.ensures.items ∙ ap (λ (t : Text). c.loop-name.found.items ++ t ∷ []) (search rules))
          ∙ c.loop-name.invariant
      | else-is_chosen w ↦
          name_left_out view kind pattern c.args.entries.now c.loop-name.name-index c.loop-name-item.result c.loop-name.found.items c.if-is_chosen.found.items c.loop-name-test.true c.loop-name-item.is
          (fits ∙ w.if-is_chosen.false) (ap (λ v. v.items) w.found-is)
          ∙ c.loop-name.invariant
    ]
