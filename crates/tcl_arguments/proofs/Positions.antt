-- A number as an index.
use Rattle.std.proofs.Common.{◌≡◌, Ok, refl, ℤ, pos}
use Rattle.tcl_chars.specs.Index.{index_of}
use Rattle.tcl_chars.specs.Messages.{position}
use Rattle.tcl_chars.specs.Whole.{whole_of}
use Rattle.tcl_chars.specs.declared.indices.Position.TheVariants.{Start}
use Rattle.tcl_chars.specs.declared.numbers.Dialect.{Dialect}
use Rattle.tcl_chars.specs.declared.numbers.Whole.TheVariants.{Number}
use Rattle.tcl_pages.specs.Texts.{Text}

-- what is read as a number is the index of that number
pub position_of_number : (dialect : Dialect) (t : Text) (n : ℤ) → whole_of dialect t ≡ Number n → position dialect t ≡ Ok (Start n (pos 0))
unfolding index_of
position_of_number dialect t n e = rw e refl
