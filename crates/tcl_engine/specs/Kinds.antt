-- Which commands are of which kind.
use Rattle.tcl_meaning.specs.declared.page.Page.{Page}
use Rattle.tcl_meaning.specs.declared.page.Page.TheVariants as page

-- what they ask for depends on their words alone
abbrev pub IsAtOnce : Page → Type 0
IsAtOnce (page.Pure p) = Unit {0}
IsAtOnce page.Apply = Unit {0}
IsAtOnce page.If = Unit {0}
IsAtOnce page.While = Unit {0}
IsAtOnce page.For = Unit {0}
IsAtOnce page.Foreach = Unit {0}
IsAtOnce page.Lmap = Unit {0}
IsAtOnce page.DictFor = Unit {0}
IsAtOnce page.Switch = Unit {0}
IsAtOnce page.Eval = Unit {0}
IsAtOnce page.Expr = Unit {0}
IsAtOnce page.Catch = Unit {0}
IsAtOnce page.Return = Unit {0}
IsAtOnce page.Error = Unit {0}
IsAtOnce page.Break = Unit {0}
IsAtOnce page.Continue = Unit {0}
IsAtOnce page.Throw = Unit {0}
IsAtOnce page.Try = Unit {0}
IsAtOnce _ = ⊥

-- they work on frames
abbrev pub IsOverFrames : Page → Type 0
IsOverFrames (page.Update p) = Unit {0}
IsOverFrames page.Set = Unit {0}
IsOverFrames page.Unset = Unit {0}
IsOverFrames page.Lassign = Unit {0}
IsOverFrames page.ArraySet = Unit {0}
IsOverFrames page.ArrayUnset = Unit {0}
IsOverFrames page.Uplevel = Unit {0}
IsOverFrames page.Upvar = Unit {0}
IsOverFrames page.Global = Unit {0}
IsOverFrames _ = ⊥

-- they work on the command table
abbrev pub IsOverCommands : Page → Type 0
IsOverCommands page.Proc = Unit {0}
IsOverCommands page.Rename = Unit {0}
IsOverCommands _ = ⊥

-- they work on channels
abbrev pub IsOverChannels : Page → Type 0
IsOverChannels page.Puts = Unit {0}
IsOverChannels page.Gets = Unit {0}
IsOverChannels page.Read = Unit {0}
IsOverChannels page.Eof = Unit {0}
IsOverChannels page.Flush = Unit {0}
IsOverChannels _ = ⊥
