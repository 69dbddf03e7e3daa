use Rattle.std.proofs.Common.{◌≡◌, OnOk, IfErr, Ok, refl, sym, subst}
use Rattle.std.specs.FinMap as map
use Rattle.std.specs.Str.{chars}
use Rattle.tcl_frames.specs.Refusals.{Refuses}
use Rattle.tcl_frames.specs.Standing.{store_of, applied}
use Rattle.tcl_meaning.specs.Variables.{put_change}
use Rattle.tcl_interp.specs.Host.{RefusesPut}
use Rattle.tcl_interp.specs.Interp.{kept_by}
use Rattle.tcl_interp.proofs.Keeping.{shown_of, kept_is, put_kept, refused_kept}
use Rattle.tcl_interp.proofs.Standing.{put_at_top}
use Rattle.tcl_interp.proofs.interp.Interp.set_var.Goals as goal
use Rattle.tcl_interp.proofs.interp.Interp.set_var.Goals.{in-Ok, in-Err}

pub invariant_of-self : goal.invariant_of-self
invariant_of-self c = put_at_top c.put.result _ c.self.inside.frames c.put.new.self map.empty c.self.invariant (c.put.ensures.done map.empty) c.put.ensures.same

pub returns-clause-done : goal.returns-clause-done
returns-clause-done c =
    let i = c.self.inside in
    let name = chars c.args.name.now in
    let t = chars c.args.value.now in
    let new = c.put.new.self in
    let top = put_at_top c.put.result _ i.frames new map.empty c.self.invariant (c.put.ensures.done map.empty) c.put.ensures.same in
    let P = applied (put_change (kept_by c.args.self.now) name t) (kept_by c.args.self.now) ≡ Ok (kept_by (shown_of i.codes new i.table i.failed)) in
    elim c.match-put.branch [
      | in-Ok w ↦
          subst (λ r. OnOk r P) (sym w.result-is)
          (put_kept name t (store_of i.table i.frames) (store_of i.table new) (kept_by c.args.self.now) (kept_by (shown_of i.codes new i.table i.failed))
          (kept_is i.codes i.frames i.table i.failed c.args.self.now c.self.invariant c.self.view_is) (kept_is i.codes new i.table i.failed (shown_of i.codes new i.table i.failed) top refl)
          (subst (λ v. applied (put_change (store_of i.table i.frames) name v) (store_of i.table i.frames) ≡ Ok (store_of i.table new)) c.in_ok-value.ensures (w.in-Ok.ensures.done i.table)))
      | in-Err w ↦ subst (λ r. OnOk r P) (sym w.result-is) tt
    ]

pub returns-clause-refused : goal.returns-clause-refused
returns-clause-refused c =
    let i = c.self.inside in
    let name = chars c.args.name.now in
    let t = chars c.args.value.now in
    let Q = RefusesPut (put_change (kept_by c.args.self.now) name t) in
    elim c.match-put.branch [
      | in-Ok w ↦ subst (λ r. IfErr r Q) (sym w.result-is) tt
      | in-Err w ↦
          subst (λ r. IfErr r Q) (sym w.result-is)
          (subst Q (sym w.from.ensures) (refused_kept name t (store_of i.table i.frames) (kept_by c.args.self.now) w.in-Err.fault (kept_is i.codes i.frames i.table i.failed c.args.self.now c.self.invariant c.self.view_is)
          (subst (λ v. Refuses (put_change (store_of i.table i.frames) name v) w.in-Err.fault) c.in_ok-value.ensures (w.in-Err.ensures.refused i.table))))
    ]
