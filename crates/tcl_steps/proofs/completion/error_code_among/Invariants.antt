use Rattle.std.proofs.Common.{◌≡◌, length}
use Rattle.tcl_chars.specs.Texts.{literal}
use Rattle.tcl_pages.specs.DictPages.{value_at}
use Rattle.tcl_steps.proofs.completion.error_code_among.Given as goal

abbrev pub invariant-options : goal.invariant-options
invariant-options l = value_at (literal "-errorcode") l.fn.options ≡ value_at (literal "-errorcode") l.rest

abbrev pub decreases-options : goal.decreases-options
decreases-options l = length l.rest
