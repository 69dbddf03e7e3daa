use Rattle.std.proofs.Common.{◌≡◌, ◌++◌, take}
use Rattle.tcl_pages.specs.DictPages.{flat}
use Rattle.tcl_steps.proofs.completion.push_options.Given as goal

abbrev pub invariant-loop-name : goal.invariant-loop-name
invariant-loop-name l = l.items.items ≡ l.fn.items.items ++ flat (take l.name-index l.options)
