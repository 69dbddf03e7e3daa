use Rattle.std.proofs.Common.{◌∙◌, ap}
use Rattle.std.specs.Str.{chars}
use Rattle.std.proofs.lemmas.Str.{chars-IsAscii, IsUtf8-from_ascii}
use Rattle.tcl_values.proofs.short.Short.as_str.Goals as goal

pub from_utf8_unchecked-requires : goal.from_utf8_unchecked-requires
from_utf8_unchecked-requires c = IsUtf8-from_ascii _ c.requires.ascii

pub returns-clause-text : goal.returns-clause-text
returns-clause-text c = ap chars c.from_utf8_unchecked.ensures ∙ chars-IsAscii _ c.requires.ascii
