-- The increment 1, as a text and among words.
use Rattle.std.proofs.Common.{◌≡◌, ℕ, ◌+◌, ◌≤◌, sym, ◌∙◌, refl, arith}
use Rattle.std.proofs.lemmas.Fmt.{decimal_digit}
use Rattle.std.specs.Fmt.{signed_decimal}
use Rattle.std.specs.Prelude.{pos, codes}
use Rattle.tcl_chars.proofs.Literals.{literal_chars}
use Rattle.tcl_chars.specs.Texts.{literal}
use Rattle.tcl_pages.specs.declared.pages.UpdatePage.{UpdatePage}
use Rattle.tcl_pages.specs.declared.pages.UpdatePage.TheVariants as page
use Rattle.tcl_vars.specs.Updating.{AddsOne}

pub one_is : signed_decimal (pos 1) ≡ literal "1"
one_is = decimal_digit 1 (omega arith) ∙ sym (literal_chars (codes "1") refl)

-- at most one word stands behind the name of a command that adds one
pub one_behind : (p : UpdatePage) (n m : ℕ) → AddsOne p n → m + 1 ≡ n → m ≤ 1
one_behind page.Append n m k e = absurd k
one_behind page.Incr n m k e = omega (arith, k, e)
one_behind page.Lappend n m k e = absurd k
one_behind page.Lset n m k e = absurd k
one_behind page.DictAppend n m k e = absurd k
one_behind page.DictIncr n m k e = omega (arith, k, e)
one_behind page.DictLappend n m k e = absurd k
one_behind page.DictSet n m k e = absurd k
one_behind page.DictUnset n m k e = absurd k
