-- Variables and refusals, as a host sees them.
use Rattle.std.specs.Prelude.{◌≡◌, List, [], ◌∷◌, map as each, Option, Some, None, option_map, Result, Ok, Err}
use Rattle.std.specs.FinMap as map
use Rattle.std.specs.declared.rc.RcStr.{RcStr}
use Rattle.std.specs.declared.alloc.Global.{Global}
use Rattle.tcl_names.specs.Named.{text_of}
use Rattle.tcl_pages.specs.Texts.{Text}
use Rattle.tcl_frames.specs.Seen.{seen_here}
use Rattle.tcl_frames.specs.declared.fault.VarFault.{VarFault as FramesFault}
use Rattle.tcl_frames.specs.declared.fault.VarFault.TheVariants as frames
use Rattle.tcl_meaning.specs.Frames.{Variable, text, array}
use Rattle.tcl_meaning.specs.SeenPages.{frame_names}
use Rattle.tcl_meaning.specs.State.{Store, active_frame}
use Rattle.tcl_meaning.specs.declared.refusal.Refusal.{Refusal}
use Rattle.tcl_meaning.specs.declared.refusal.Refusal.TheVariants as refusal
use Rattle.tcl_interp.specs.declared.host.HostVar.{HostVar}
use Rattle.tcl_interp.specs.declared.host.HostVar.TheVariants as var_of
use Rattle.tcl_interp.specs.declared.host.VarFault.{VarFault}
use Rattle.tcl_interp.specs.declared.host.VarFault.TheVariants as var
use Rattle.tcl_interp.specs.declared.host.HostFault.{HostFault}
use Rattle.tcl_interp.specs.declared.host.HostFault.TheVariants as host

-- ---- variables

-- a variable's text, for a host
abbrev pub host_text : Result Text Refusal → Option Text
host_text (Ok t) = Some t
host_text (Err refusal) = None

-- what a host is told of a variable: its text, or the elements of the array, by name in the order of code points
pub data Told : Type 0 where
  the_text : Text → Told
  the_elements : List (Text × Text) → Told

abbrev pub told_of : Variable → Told
told_of (text t) = the_text t
told_of (array m) = the_elements (map.entries m)

-- what is told under a name, if there is anything, and of those behind it
abbrev pub told_also : Text → Option Told → List (Text × Told) → List (Text × Told)
told_also name None more = more
told_also name (Some told) more = (name, told) ∷ more

abbrev pub told_among : Store → List (Text × Unit {0}) → List (Text × Told)
told_among s [] = []
told_among s (e ∷ es) = told_also e.0 (option_map told_of (seen_here s e.0)) (told_among s es)

-- The variables of the active frame, by name in the order of code points; a link by what it leads to.
abbrev pub all_told : Store → List (Text × Told)
all_told s = told_among s (map.entries (frame_names (active_frame s)))

-- the characters of each element's name and of its text
abbrev pub elements_shown : List (RcStr Global × RcStr Global) → List (Text × Text)
elements_shown shown = each (λ (e : RcStr Global × RcStr Global). (text_of e.0, text_of e.1)) shown

abbrev pub told_by : HostVar → Told
told_by (var_of.Text t) = the_text (text_of t)
told_by (var_of.Array elements) = the_elements (elements_shown elements.items)

-- what is told by each name and what stands beside it
abbrev pub vars_shown : List (RcStr Global × HostVar) → List (Text × Told)
vars_shown vars = each (λ (v : RcStr Global × HostVar). (text_of v.0, told_by v.1)) vars

-- ---- refusals

abbrev pub var_fault : Refusal → VarFault
var_fault refusal.NoSuch = var.NoSuch
var_fault refusal.IsArray = var.IsArray
var_fault refusal.IsntArray = var.IsntArray
var_fault refusal.NoElement = var.NoElement

-- a fault of the frames, as a host sees it
abbrev pub host_fault : FramesFault → HostFault
host_fault (frames.Refused refusal) = host.Var (var_fault refusal)
host_fault frames.Memory = host.Memory

-- the interpreter had failed, or memory was refused
abbrev pub IsRefusal : HostFault → Type 0
IsRefusal host.Memory = Unit {0}
IsRefusal host.Failed = Unit {0}
IsRefusal (host.Var fault) = ⊥

-- the fault is the one that the definition answers, the interpreter had failed, or memory was refused
abbrev pub RefusesPut : {A : Type 0} → Result A Refusal → HostFault → Type 0
RefusesPut answer host.Memory = Unit {0}
RefusesPut answer host.Failed = Unit {0}
RefusesPut answer (host.Var fault) = (refusal : Refusal) × (answer ≡ Err refusal) × (fault ≡ var_fault refusal)
