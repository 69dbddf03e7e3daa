-- What is told of what a page owes.
use Rattle.std.specs.Prelude.{Bool, true, false}
use Rattle.tcl_meaning.specs.Tasks.{Owes, Leaving}

-- the body of a procedure, or of a lambda, has ended
abbrev pub is_leaving : Owes → Bool
is_leaving Leaving = true
is_leaving _ = false
