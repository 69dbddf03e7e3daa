-- A variable that can't be written, and the refusal that says why.
use Rattle.std.proofs.Common.{◌≡◌, Result, Err, ap, ◌∙◌}
use Rattle.tcl_pages.specs.Texts.{Text}
use Rattle.tcl_meaning.specs.declared.refusal.Refusal.{Refusal}
use Rattle.tcl_meaning.specs.Effects.{does}
use Rattle.tcl_meaning.specs.State.{Commands}
use Rattle.tcl_meaning.specs.Value.{Fails}
use Rattle.tcl_meaning.specs.Variables.{put_change, set, set_result, cant_set}
use Rattle.tcl_frames.specs.declared.fault.VarFault.{VarFault}
use Rattle.tcl_frames.specs.declared.fault.VarFault.TheVariants as var
use Rattle.tcl_frames.specs.Refusals.{Refuses}
use Rattle.tcl_frames.specs.Standing.{Standing, store_of}
use Rattle.tcl_steps.specs.Comes.{Comes, state_of}

pub cant_be_set : (f : Standing) (name t : Text) (refusal : Refusal) → ((cs : Commands) → put_change (store_of cs f) name t ≡ Err refusal) → Comes (set name t) f (Fails (cant_set name refusal)) f
cant_be_set f name t refusal h = record { same = λ cs ch n. ap (λ r. does (set_result name r) (state_of cs ch n f)) (h cs) }

-- the refusal that is met
pub refused_by : {A : Type 0} (r : Result A Refusal) (fault : VarFault) (refusal : Refusal) → fault ≡ var.Refused refusal → Refuses r fault → r ≡ Err refusal
refused_by r var.Memory refusal e h = cc
refused_by r (var.Refused other) refusal e h = let k : other ≡ refusal = cc in h ∙ ap Err k
