-- Numbers are the same where their decimal texts are.
use Rattle.std.proofs.Common.{◌≡◌, ℕ, List, ℤ, FitsSigned, to_z, of_z, nat_eq, sym, ap, ◌∙◌}
use Rattle.std.specs.Fmt.{signed_decimal}
use Rattle.std.specs.Int.{w64}
use Rattle.std.proofs.lemmas.Bool.Decides.{Decides-eqb, Decides-like, same_from_decides}
use Rattle.std.proofs.lemmas.Fmt.{signed_decimal_injective}
use Rattle.std.proofs.lemmas.Int.{to_z-of_z}
use Rattle.std.proofs.lemmas.Slice.Eq.{bytes_eq-Decides}
use Rattle.tcl_chars.specs.Texts.{same_text}
use Rattle.tcl_values.proofs.Decimals.{small}

pub same_numbers : (y z : ℤ) (s t : List ℕ) → FitsSigned w64 y → FitsSigned w64 z → t ≡ signed_decimal y → s ≡ signed_decimal z → nat_eq (of_z w64 y) (of_z w64 z) ≡ same_text s t
same_numbers y z s t f g own number =
    let there : s ≡ t → of_z w64 y ≡ of_z w64 z = λ e. ap (of_z w64) (signed_decimal_injective y z (small y f) (small z g) (sym own ∙ sym e ∙ number)) in
    let back : of_z w64 y ≡ of_z w64 z → s ≡ t = λ e. number ∙ ap signed_decimal (sym (to_z-of_z w64 z g) ∙ ap (to_z w64) (sym e) ∙ to_z-of_z w64 y f) ∙ sym own in
    same_from_decides _ _ (Decides-eqb (of_z w64 y) (of_z w64 z)) (Decides-like _ there back (bytes_eq-Decides s t))
