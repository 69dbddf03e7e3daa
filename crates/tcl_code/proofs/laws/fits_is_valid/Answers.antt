use Rattle.tcl_code.proofs.Shapes.{valid}
use Rattle.tcl_code.proofs.laws.fits_is_valid.Goals as goal

pub returns : goal.returns
returns c = λ code x. valid code x
