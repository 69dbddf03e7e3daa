use Rattle.std.proofs.Common.{[], ◌∷◌}
use Rattle.tcl_text_tests.proofs.chars.texts.first_of.Goals as goal

pub before-requires : goal.before-requires
before-requires c = record { front = c.in-Some.field-0-0 ∷ []; joined = c.in-Some.ensures.parts.in_chars }
