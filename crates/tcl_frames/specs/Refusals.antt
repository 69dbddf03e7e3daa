-- Why a variable can't be read, written or linked, or that memory was refused.
use Rattle.std.specs.Prelude.{◌≡◌, Result, Err, Option, Some}
use Rattle.tcl_meaning.specs.declared.refusal.Refusal.{Refusal}
use Rattle.tcl_meaning.specs.declared.refusal.LinkRefusal.{LinkRefusal}
use Rattle.tcl_frames.specs.declared.fault.VarFault.{VarFault}
use Rattle.tcl_frames.specs.declared.fault.VarFault.TheVariants as var
use Rattle.tcl_frames.specs.declared.fault.LinkFault.{LinkFault}
use Rattle.tcl_frames.specs.declared.fault.LinkFault.TheVariants as link

-- the fault is what the definition answers, or memory was refused
abbrev pub Refuses : {A : Type 0} → Result A Refusal → VarFault → Type 0
Refuses answer var.Memory = Unit {0}
Refuses answer (var.Refused refusal) = answer ≡ Err refusal

abbrev pub RefusesLink : Option LinkRefusal → LinkFault → Type 0
RefusesLink answer link.Memory = Unit {0}
RefusesLink answer (link.Refused refusal) = answer ≡ Some refusal
