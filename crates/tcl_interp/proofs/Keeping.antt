-- What an interpreter keeps, as contracts see it and as its fields are.
use Rattle.std.proofs.Common.{◌≡◌, Bool, Result, Ok, refl, sym, ap, subst, ◌∙◌}
use Rattle.tcl_chars.specs.declared.numbers.Dialect.{Dialect}
use Rattle.tcl_pages.specs.Texts.{Text}
use Rattle.tcl_frames.specs.Refusals.{Refuses}
use Rattle.tcl_frames.specs.Standing.{Standing, store_of, applied}
use Rattle.tcl_frames.specs.declared.fault.VarFault.{VarFault as FramesFault}
use Rattle.tcl_frames.specs.declared.fault.VarFault.TheVariants as frames
use Rattle.tcl_meaning.specs.Frames.{frame_at}
use Rattle.tcl_meaning.specs.State.{Commands, Store}
use Rattle.tcl_meaning.specs.Variables.{put_change}
use Rattle.tcl_meaning.specs.declared.refusal.Refusal.{Refusal}
use Rattle.tcl_interp.specs.Host.{host_fault, RefusesPut}
use Rattle.tcl_interp.specs.Interp.{Shows, IsAtTop, kept_by}

abbrev pub shown_of : Dialect → Standing → Commands → Bool → Shows
shown_of codes frames table failed = record { dialect = codes; globals = frame_at frames.frames 0; commands = table; failed = failed }

pub kept_is : (codes : Dialect) (frames : Standing) (table : Commands) (failed : Bool) (shows : Shows) → IsAtTop frames → shown_of codes frames table failed ≡ shows → store_of table frames ≡ kept_by shows
kept_is codes frames table failed shows top view = ap (store_of table) top ∙ ap kept_by view

-- once a variable is changed
pub put_kept : (name t : Text) (old new : Store) (before after : Store) → old ≡ before → new ≡ after → applied (put_change old name t) old ≡ Ok new → applied (put_change before name t) before ≡ Ok after
put_kept name t old new before after e k h = sym (ap (λ s. applied (put_change s name t) s) e) ∙ h ∙ ap (λ (s : Store). Ok s) k

-- and where it can't be
refused_put : {A : Type 0} (answer : Result A Refusal) (fault : FramesFault) → Refuses answer fault → RefusesPut answer (host_fault fault)
refused_put answer frames.Memory h = tt
refused_put answer (frames.Refused refusal) h = (refusal, h, refl)

pub refused_kept : (name t : Text) (old before : Store) (fault : FramesFault) → old ≡ before → Refuses (put_change old name t) fault → RefusesPut (put_change before name t) (host_fault fault)
refused_kept name t old before fault e h = subst (λ s. RefusesPut (put_change s name t) (host_fault fault)) e (refused_put (put_change old name t) fault h)
