-- Variables by their names, once a part of one is written or taken away.
use Rattle.std.specs.Prelude.{ℕ, zero, suc, List, [], ◌∷◌, slice_set, Option, Some, None, Result, Ok, Err}
use Rattle.std.specs.FinMap as map
use Rattle.tcl_meaning.specs.declared.refusal.Refusal.{Refusal}
use Rattle.tcl_pages.specs.Texts.{Text}
use Rattle.tcl_meaning.specs.Frames.{Part, Spot, Variable, Variables, frame_at, set_frame}
use Rattle.tcl_frames.specs.Standing.{Standing}
use Rattle.tcl_meaning.specs.Variables.{put_part}

abbrev pub stored_in : Variables → Text → Result Variable Refusal → Result Variables Refusal
stored_in vs name (Ok v) = Ok (map.insert vs name v)
stored_in vs name (Err refusal) = Err refusal

abbrev pub removed_in : Variables → Text → Result (Option Variable) Refusal → Result Variables Refusal
removed_in vs name (Ok (Some v)) = Ok (map.insert vs name v)
removed_in vs name (Ok None) = Ok (map.remove vs name)
removed_in vs name (Err refusal) = Err refusal

-- what is answered, or else what was there
abbrev pub or_else : {A : Type 0} → A → Result A Refusal → A
or_else before (Ok after) = after
or_else before (Err refusal) = before

-- a variable, and variables, once a part has a text
abbrev pub with_part : Variable → Part → Text → Variable
with_part v part t = or_else v (put_part (Some v) part t)

abbrev pub with_text : Variables → Text → Part → Text → Variables
with_text vs name part t = or_else vs (stored_in vs name (put_part (map.get vs name) part t))

-- ---- the variables of all frames, by the numbers of the frames

abbrev pub variables_of : List Variables → ℕ → Variables
variables_of [] i = map.empty
variables_of (v ∷ vs) zero = v
variables_of (v ∷ vs) (suc i) = variables_of vs i

-- the variable at a place
abbrev pub variable_in : List Variables → Spot → Option Variable
variable_in vs p = map.get (variables_of vs p.frame) p.name

abbrev pub with_frame_of : List Variables → ℕ → Result Variables Refusal → Result (List Variables) Refusal
with_frame_of vs i (Ok m) = Ok (slice_set vs i m)
with_frame_of vs i (Err refusal) = Err refusal

abbrev pub stored_at : List Variables → Spot → Result Variable Refusal → Result (List Variables) Refusal
stored_at vs p r = with_frame_of vs p.frame (stored_in (variables_of vs p.frame) p.name r)

abbrev pub removed_at : List Variables → Spot → Result (Option Variable) Refusal → Result (List Variables) Refusal
removed_at vs p r = with_frame_of vs p.frame (removed_in (variables_of vs p.frame) p.name r)

-- once a place has a text
abbrev pub with_text_at : List Variables → Spot → Text → List Variables
with_text_at vs p t = slice_set vs p.frame (with_text (variables_of vs p.frame) p.name p.part t)

-- the frames once a place has a text
abbrev pub with_text_in : Standing → Spot → Text → Standing
with_text_in s p t = let f = frame_at s.frames p.frame in record s { frames = set_frame s.frames p.frame (record f { variables = with_text f.variables p.name p.part t }) }
