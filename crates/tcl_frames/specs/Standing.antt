-- What scripts keep, but the commands: the frames that stand, and the active one.
use Rattle.std.specs.Prelude.{ℕ, suc, ◌-◌, ◌<◌, ◌≤◌, List, [], ◌∷◌, ◌++◌, length, take, Result, Ok, Err}
use Rattle.std.specs.FinMap as map
use Rattle.tcl_meaning.specs.Frames.{Variables, Frame, frame_at}
use Rattle.tcl_meaning.specs.declared.refusal.Refusal.{Refusal}
use Rattle.tcl_pages.specs.Texts.{Text}
use Rattle.tcl_meaning.specs.Variables.{put_change}
use Rattle.tcl_meaning.specs.Links.{IsSound}
use Rattle.tcl_meaning.specs.State.{Commands, Store, Change, changed}

pub record Standing : Type 0 where
  pub frames : List Frame
  pub active : ℕ

-- what scripts keep, with these commands
abbrev pub store_of : Commands → Standing → Store
store_of cs f = record { frames = f.frames; active = f.active; commands = cs }

-- what scripts keep after a change, if it isn't refused
abbrev pub applied : {R : Type 0} → Result Change R → Store → Result Store R
applied (Ok ch) s = Ok (changed ch s)
applied (Err refusal) s = Err refusal

-- The active frame is there, links end, no frame but the global one is called by itself or a later one, and none has
-- more callers than there are.
pub record IsStanding (f : Standing) : Type 0 where
  pub sound : IsSound (store_of map.empty f)
  pub levels : (i : ℕ) → (frame_at f.frames i).level ≤ i
  pub earlier : (i : ℕ) → 0 < i → (frame_at f.frames i).caller < i

-- ---- frames and their variables, kept apart

abbrev pub with_variables : List Frame → List Variables → List Frame
with_variables [] vs = []
with_variables (f ∷ fs) [] = f ∷ fs
with_variables (f ∷ fs) (v ∷ vs) = record f { variables = v } ∷ with_variables fs vs

abbrev pub joined : Standing → List Variables → Standing
joined f vs = record { frames = with_variables f.frames vs; active = f.active }

-- ---- calls: proc(n)

-- with a frame more, without variables, which the active one calls, and which is active then
abbrev pub called : Standing → Standing
called f = record { frames = f.frames ++ record { caller = f.active; level = suc (frame_at f.frames f.active).level; variables = map.empty; links = map.empty } ∷ []; active = length f.frames }

-- without the last frame, whose caller is active then
abbrev pub left : Standing → Standing
left f = let n = length f.frames - 1 in record { frames = take n f.frames; active = (frame_at f.frames n).caller }

-- ---- once a text is put under a name

abbrev pub standing_of_store : Store → Standing
standing_of_store s = record { frames = s.frames; active = s.active }

abbrev pub after : Standing → Result Store Refusal → Standing
after before (Ok s) = standing_of_store s
after before (Err refusal) = before

abbrev pub with_put : Standing → Text → Text → Standing
with_put f name t = let s = store_of map.empty f in after f (applied (put_change s name t) s)
