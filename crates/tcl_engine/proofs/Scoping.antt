-- Frames in which scripts are run, and what is undone behind them.
use Rattle.std.proofs.Common.{◌≡◌, ℕ, ◌+◌, ◌-◌, ◌<◌, false, length, take, sym, ap, ◌∙◌, subst, arith, Some, None}
use Rattle.std.proofs.lemmas.List.{length-append, length-take-le}
use Rattle.std.specs.FinMap as map
use Rattle.tcl_frames.specs.Standing.{Standing, store_of, left}
use Rattle.tcl_meaning.specs.Effects.{At, Within, Scope, or_active, entered}
use Rattle.tcl_meaning.specs.Frames.{Variables, Level, frame_of_level}
use Rattle.tcl_meaning.specs.State.{Commands, Channels, Store, State, with_active, with_call}
use Rattle.tcl_steps.specs.Comes.{state_of}
use Rattle.tcl_vm.specs.Standing.{undo}
use Rattle.tcl_vm.specs.Unwinding.{CanUndo}
use Rattle.tcl_engine.specs.Undoing.{undone_shown}
use Rattle.tcl_engine.specs.declared.undone.Undone.{Undone}
use Rattle.tcl_engine.specs.declared.undone.Undone.TheVariants as undone

pub no_channels : Channels
no_channels = record { input = None; met_end = false; out = None; err = None }

abbrev pub Can : Undone → Standing → Type 0
Can u f = (cs : Commands) (channels : Channels) (units : ℕ) → CanUndo (undone_shown u) (state_of cs channels units f)

abbrev pub IsUndone : Undone → Standing → Standing → Type 0
IsUndone u f g = (cs : Commands) (channels : Channels) (units : ℕ) → state_of cs channels units g ≡ undo (undone_shown u) (state_of cs channels units f)

pub back_there : (u : Undone) (i : ℕ) (f : Standing) → u ≡ undone.Back i → Can u f → i < length f.frames
back_there u i f is can = subst (λ x. CanUndo (undone_shown x) (state_of map.empty no_channels 0 f)) is (can map.empty no_channels 0)

gone_there : (u : Undone) (i n : ℕ) (f : Standing) → u ≡ undone.Gone i n → Can u f → (i < n) × (length f.frames ≡ n + 1)
gone_there u i n f is can = subst (λ x. CanUndo (undone_shown x) (state_of map.empty no_channels 0 f)) is (can map.empty no_channels 0)

pub gone_more : (u : Undone) (i n : ℕ) (f : Standing) → u ≡ undone.Gone i n → Can u f → 1 < length f.frames
gone_more u i n f is can = let h = gone_there u i n f is can in let a = h.0 in let b = h.1 in omega (a, b, arith)

pub gone_left : (u : Undone) (i n : ℕ) (f g : Standing) → u ≡ undone.Gone i n → Can u f → g ≡ left f → i < length g.frames
gone_left u i n f g is can e =
    let h = gone_there u i n f is can in
    let a = h.0 in
    let b = h.1 in
    let k = ap (λ x. length x.frames) e ∙ length-take-le (length f.frames - 1) f.frames (omega arith) in
    omega (a, b, k, arith)

abbrev over : Channels → ℕ → Store → State
over channels units s = record { store = s; channels = channels; units = units }

state_by : (channels : Channels) (units : ℕ) (s t : Store) → s ≡ t → over channels units s ≡ over channels units t
state_by channels units s t e = ap (over channels units) e

pub back_undone : (u : Undone) (i : ℕ) (f g : Standing) → u ≡ undone.Back i → ((cs : Commands) → store_of cs g ≡ with_active i (store_of cs f)) → IsUndone u f g
back_undone u i f g is e cs channels units =
    state_by channels units (store_of cs g) (with_active i (store_of cs f)) (e cs) ∙ ap (λ x. undo (undone_shown x) (state_of cs channels units f)) (sym is)

pub gone_undone : (u : Undone) (i n : ℕ) (f g h : Standing) → u ≡ undone.Gone i n → Can u f → g ≡ left f → ((cs : Commands) → store_of cs h ≡ with_active i (store_of cs g)) → IsUndone u f h
gone_undone u i n f g h is can e k cs channels units =
    let b = (gone_there u i n f is can).1 in
    let m : length f.frames - 1 ≡ n = omega (b, arith) in
    state_by channels units (store_of cs h) (with_active i (store_of cs g)) (k cs)
    ∙ ap (λ x. state_of cs channels units (record x { active = i })) e
    ∙ ap (λ z. state_of cs channels units (record { frames = take z f.frames; active = i })) m
    ∙ ap (λ x. undo (undone_shown x) (state_of cs channels units f)) (sym is)

-- ---- entered

abbrev pub IsEntered : Scope → Standing → Standing → Type 0
IsEntered scope f g = (cs : Commands) (channels : Channels) (units : ℕ) → state_of cs channels units g ≡ entered scope (state_of cs channels units f)

pub at_entered : (scope : Scope) (level : Level) (i : ℕ) (f g : Standing) → scope ≡ At level → Some i ≡ frame_of_level f.frames f.active level → ((cs : Commands) → store_of cs g ≡ with_active i (store_of cs f)) → IsEntered scope f g
at_entered scope level i f g is found e cs channels units =
    state_by channels units (store_of cs g) (with_active i (store_of cs f)) (e cs)
    ∙ ap (λ o. state_of cs channels units (record f { active = or_active o f.active })) found
    ∙ ap (λ x. entered x (state_of cs channels units f)) (sym is)

pub at_can : (i n : ℕ) (f g : Standing) → n < length f.frames → ((cs : Commands) → store_of cs g ≡ with_active i (store_of cs f)) → n < length g.frames
at_can i n f g there e = subst (λ k. n < k) (sym (ap (λ s. length s.frames) (e map.empty))) there

pub within_entered : (scope : Scope) (vs taken : Variables) (f g : Standing) → scope ≡ Within vs → taken ≡ vs → ((cs : Commands) → store_of cs g ≡ with_call taken (store_of cs f)) → IsEntered scope f g
within_entered scope vs taken f g is same e cs channels units =
    state_by channels units (store_of cs g) (with_call vs (store_of cs f)) (e cs ∙ ap (λ x. with_call x (store_of cs f)) same) ∙ ap (λ x. entered x (state_of cs channels units f)) (sym is)

pub within_can : (vs : Variables) (i n : ℕ) (f g : Standing) → i < length f.frames → n ≡ length f.frames → ((cs : Commands) → store_of cs g ≡ with_call vs (store_of cs f)) → (i < n) × (length g.frames ≡ n + 1)
within_can vs i n f g there is e =
    let k = ap (λ s. length s.frames) (e map.empty) ∙ length-append f.frames _ in
    (omega (there, is, arith), omega (k, is, arith))
