-- The item is the first character, and what `chars` has left is the text after it.
use Rattle.tcl_chars.proofs.Places.{first_is, shorter_behind}
use Rattle.tcl_chars.proofs.texts.split_first.Goals as goal

pub returns-clause-parts : goal.returns-clause-parts
returns-clause-parts c =
    first_is c.args.text.now _ c.as_str.result.now _ c.in_ok-first.first c.utf8.text c.chars-rest.ensures.rest c.in_ok-first.ensures.steps.0 c.as_str.ensures

pub returns-clause-shorter : goal.returns-clause-shorter
returns-clause-shorter c =
    let f = first_is c.args.text.now _ c.as_str.result.now _ c.in_ok-first.first c.utf8.text c.chars-rest.ensures.rest c.in_ok-first.ensures.steps.0 c.as_str.ensures in
    shorter_behind _ _ c.in_ok-first.first f
