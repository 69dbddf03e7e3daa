use Rattle.tcl_values.proofs.Decimals.{utf8_decimal}
use Rattle.tcl_values.proofs.digits.Digits.text.Goals as goal

pub from_utf8_unchecked-requires : goal.from_utf8_unchecked-requires
from_utf8_unchecked-requires c = utf8_decimal c.requires.number _ c.requires.fits c.requires.decimal
