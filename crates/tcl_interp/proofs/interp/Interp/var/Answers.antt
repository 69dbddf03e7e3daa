use Rattle.std.proofs.Common.{◌≡◌, IfOk, Some, option_map, sym, ap, subst, ◌∙◌}
use Rattle.std.specs.Str.{chars}
use Rattle.tcl_meaning.specs.State.{Store}
use Rattle.tcl_meaning.specs.Variables.{get}
use Rattle.tcl_names.specs.Named.{text_of}
use Rattle.tcl_pages.specs.Texts.{Text}
use Rattle.tcl_interp.specs.Host.{host_text}
use Rattle.tcl_interp.specs.Interp.{kept_by}
use Rattle.tcl_interp.proofs.Keeping.{kept_is}
use Rattle.tcl_interp.proofs.interp.Interp.var.Goals as goal
use Rattle.tcl_interp.proofs.interp.Interp.var.Goals.{in-Ok+in_ok-text_of-in-Ok, in-Err}

pub returns-clause-value : goal.returns-clause-value
returns-clause-value c =
    let i = c.self.inside in
    let name = chars c.args.name.now in
    let kept = ap (λ (s : Store). host_text (get s name)) (kept_is i.codes i.frames i.table i.failed c.args.self.now c.self.invariant c.self.view_is) in
    elim c.match-find.branch [
      | in-Ok+in_ok-text_of-in-Ok w ↦
          subst (λ r. IfOk r (λ value. option_map text_of value ≡ host_text (get (kept_by c.args.self.now) name))) (sym w.result-is) (ap (λ (t : Text). Some t) w.in_ok-text_of-in-Ok.ensures ∙ ap host_text (sym (w.in-Ok.ensures.found i.table)) ∙ kept)
      | in-Err w ↦ subst (λ r. IfOk r (λ value. option_map text_of value ≡ host_text (get (kept_by c.args.self.now) name))) (sym w.result-is) (ap host_text (sym (w.in-Err.ensures.refused i.table)) ∙ kept)
    ]
