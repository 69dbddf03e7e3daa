-- What calls have done to the frames can be undone.
use Rattle.std.proofs.Common.{◌≡◌, Bool, true, false, List, [], ◌∷◌, ◌++◌, length, refl, sym, ap, ◌∙◌, subst, arith}
use Rattle.std.proofs.lemmas.List.{length-take-le}
use Rattle.tcl_meaning.specs.Effects.{Scope, entered}
use Rattle.tcl_meaning.specs.State.{State}
use Rattle.tcl_vm.specs.Engines.{Spent}
use Rattle.tcl_vm.specs.Standing.{Undone, Nothing, Back, Gone, undone_of, undo, Waiting}
use Rattle.tcl_vm.specs.Turns.{Config}
use Rattle.tcl_vm.specs.Unwinding.{CanUndo, SameFrames, Above, Unwinds}
use Rattle.tcl_vm.proofs.Answering.{undo_entered}

pub frames_as : (s t : State) → t ≡ s → SameFrames s t
frames_as s t e = record { count = ap (λ x. length x.store.frames) e }

pub frames_trans : (s t u : State) → SameFrames s t → SameFrames t u → SameFrames s u
frames_trans s t u h k = record { count = k.count ∙ h.count }

pub spent_frames : (b : Bool) (s t : State) → Spent b s t → SameFrames s t
spent_frames true s t h = record { count = ap (λ x. length x.store.frames) h.2 }
spent_frames false s t h = frames_as s t h.1

can_same : (u : Undone) (s t : State) → SameFrames s t → CanUndo u s → CanUndo u t
can_same Nothing s t h c = tt
can_same (Back i) s t h c = let e = h.count in omega arith
can_same (Gone i n) s t h c = (c.0, h.count ∙ c.1)

undo_same : (u : Undone) (s t : State) → SameFrames s t → CanUndo u s → SameFrames (undo u s) (undo u t)
undo_same Nothing s t h c = h
undo_same (Back i) s t h c = record { count = h.count }
undo_same (Gone i n) s t h c =
    let e = h.count in
    let k = c.1 in
    record { count = length-take-le n t.store.frames (omega arith) ∙ sym (length-take-le n s.store.frames (omega arith)) }

pub above_same : (ws : List Waiting) (b s t : State) → SameFrames s t → Above ws b s → Above ws b t
above_same [] b s t h k = frames_trans b s t k h
above_same (w ∷ ws) b s t h k = (k.0, k.1, k.2, above_same ws k.0 s t h k.3)

pub above_push : (ws : List Waiting) (w : Waiting) (b s t : State) → CanUndo w.undone t → SameFrames s (undo w.undone t) → Above ws b s → Above (ws ++ w ∷ []) b t
above_push [] w b s t c h k = (t, c, frames_trans b s (undo w.undone t) k h, frames_as t t refl)
above_push (v ∷ ws) w b s t c h k = (k.0, k.1, k.2, above_push ws w k.0 s t c h k.3)

pub above_pop : (ws : List Waiting) (w : Waiting) (b s : State) → Above (ws ++ w ∷ []) b s → CanUndo w.undone s × Above ws b (undo w.undone s)
above_pop [] w b s k = (can_same w.undone k.0 s k.3 k.1, frames_trans b (undo w.undone k.0) (undo w.undone s) k.2 (undo_same w.undone k.0 s k.3 k.1))
above_pop (v ∷ ws) w b s k = let x = above_pop ws w k.0 s k.3 in (x.0, (k.0, k.1, k.2, x.1))

-- ---- whole machines

pub unwinds_same : (c d : Config) → d.machine.callers ≡ c.machine.callers → SameFrames c.state d.state → Unwinds c → Unwinds d
unwinds_same c d e h u = record { base = u.base; above = subst (λ ws. Above ws u.base d.state) (sym e) (above_same c.machine.callers u.base c.state d.state h u.above) }

pub unwinds_entered : (c d : Config) (w : Waiting) (scope : Scope) → d.machine.callers ≡ c.machine.callers ++ w ∷ [] → w.undone ≡ undone_of scope c.state → d.state ≡ entered scope c.state → CanUndo w.undone d.state → Unwinds c → Unwinds d
unwinds_entered c d w scope e q k can u =
    let back : undo w.undone d.state ≡ c.state = ap (λ x. undo x d.state) q ∙ ap (undo (undone_of scope c.state)) k ∙ undo_entered scope c.state in
    record { base = u.base; above = subst (λ ws. Above ws u.base d.state) (sym e) (above_push c.machine.callers w u.base c.state d.state can (frames_as c.state (undo w.undone d.state) back) u.above) }

pub unwinds_stay : (c d : Config) (w : Waiting) → d.machine.callers ≡ c.machine.callers ++ w ∷ [] → w.undone ≡ Nothing → d.state ≡ c.state → Unwinds c → Unwinds d
unwinds_stay c d w e q k u =
    let back : undo w.undone d.state ≡ c.state = ap (λ x. undo x d.state) q ∙ k in
    record { base = u.base; above = subst (λ ws. Above ws u.base d.state) (sym e) (above_push c.machine.callers w u.base c.state d.state (subst (λ x. CanUndo x d.state) (sym q) tt) (frames_as c.state (undo w.undone d.state) back) u.above) }

pub can_undo : (c : Config) (ws : List Waiting) (w : Waiting) → c.machine.callers ≡ ws ++ w ∷ [] → Unwinds c → CanUndo w.undone c.state
can_undo c ws w e u = (above_pop ws w u.base c.state (subst (λ x. Above x u.base c.state) e u.above)).0

pub unwinds_back : (c d : Config) (w : Waiting) → c.machine.callers ≡ d.machine.callers ++ w ∷ [] → SameFrames (undo w.undone c.state) d.state → Unwinds c → Unwinds d
unwinds_back c d w e h u = record { base = u.base; above = above_same d.machine.callers u.base (undo w.undone c.state) d.state h (above_pop d.machine.callers w u.base c.state (subst (λ x. Above x u.base c.state) e u.above)).1 }
