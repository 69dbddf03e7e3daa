-- Numbers that are read one after another.
use Rattle.std.proofs.Common.{◌≡◌, ℕ, suc, ◌+◌, ◌<◌, List, [], ◌∷◌, ◌++◌, length, Result, Ok, Err, ℤ, refl, sym, ap, ◌∙◌, subst}
use Rattle.std.specs.Prelude.{drop, slice_index_or}
use Rattle.tcl_chars.specs.declared.numbers.Dialect.{Dialect}
use Rattle.tcl_chars.specs.Messages.{number}
use Rattle.tcl_pages.specs.Answers.{Answer}
use Rattle.tcl_meaning.specs.Operators.{numbers}
use Rattle.tcl_pages.specs.Texts.{Text}

-- numbers before those that are read
abbrev pub led : List ℤ → Answer (List ℤ) → Answer (List ℤ)
led zs (Ok ys) = Ok (zs ++ ys)
led zs (Err m) = Err m
