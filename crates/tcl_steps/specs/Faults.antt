-- Which fault of a command a channel's fault is.
use Rattle.tcl_chan.specs.declared.fault.ChanFault.{ChanFault}
use Rattle.tcl_chan.specs.declared.fault.ChanFault.TheVariants as channel
use Rattle.tcl_steps.specs.declared.fault.Fault.{Fault}
use Rattle.tcl_steps.specs.declared.fault.Fault.TheVariants as fault

abbrev pub fault_by : ChanFault → Fault
fault_by channel.Memory = fault.Memory
fault_by channel.Read = fault.Io
fault_by channel.Write = fault.Io
