-- The end of a session that was broken off.
use Rattle.std.specs.Prelude.{Bool, false, Result, Ok, Err}
use Rattle.std.specs.Str.{chars}
use Rattle.std.specs.String.{string_bytes}
use Rattle.std.specs.declared.alloc.Global.{Global}
use Rattle.std.specs.declared.string.String.{String}
use Rattle.tcl_pages.specs.Texts.{Text}
use Rattle.tcl_chan.specs.declared.fault.ChanFault.{ChanFault}
use Rattle.tcl_chan.specs.declared.fault.ChanFault.TheVariants as fault
use Rattle.tcl_shell.specs.Ends.{end_is_io}
use Rattle.tcl_shell.specs.declared.end.SessionEnd.{SessionEnd}
use Rattle.tcl_shell.specs.declared.end.SessionEnd.TheVariants as end

abbrev pub end_by : ChanFault → SessionEnd
end_by fault.Memory = end.Memory
end_by fault.Read = end.Io
end_by fault.Write = end.Io

-- the text of an answer
abbrev pub text_by : {E : Type 0} → Result (String Global) E → Result Text E
text_by (Ok text) = Ok (chars (string_bytes text))
text_by (Err e) = Err e

-- the call of a device failed
abbrev pub fault_is_io : ChanFault → Bool
fault_is_io f = end_is_io (end_by f)

abbrev pub fails_io : {A : Type 0} → Result A ChanFault → Bool
fails_io (Ok x) = false
fails_io (Err f) = fault_is_io f
