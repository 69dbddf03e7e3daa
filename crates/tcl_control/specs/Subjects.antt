-- The string that switch(n) compares with its patterns, as it is kept.
use Rattle.std.specs.Prelude.{◌≡◌, IfSome}
use Rattle.std.specs.Fmt.{signed_decimal}
use Rattle.tcl_control.specs.declared.subject.Subject.TheInside.{Inside}

-- a number beside the text is the one whose decimal text it is
abbrev pub IsSubject : Inside → Type 0
IsSubject s = IfSome s.number (λ n. s.text ≡ signed_decimal n)
