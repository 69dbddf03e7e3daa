-- Which output a call is of.
use Rattle.tcl_chan.specs.declared.fault.Out.{Out}
use Rattle.tcl_chan.specs.declared.fault.Out.TheVariants as out

-- the one of two things that belongs to an output
abbrev pub picked : {A : Type 0} → Out → A → A → A
picked out.Stdout first second = first
picked out.Stderr first second = second
