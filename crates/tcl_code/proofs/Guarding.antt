-- A name that stands for its page.
use Rattle.std.proofs.Common.{◌≡◌, ℕ, true, [], ◌∷◌, get_or, Option, Some, None, refl, sym, ap, ◌∙◌}
use Rattle.std.specs.FinMap as map
use Rattle.std.proofs.lemmas.Bool.{eqb-true}
use Rattle.tcl_pages.specs.declared.pages.UpdatePage.TheVariants as update
use Rattle.tcl_meaning.specs.Names.{without_colons}
use Rattle.tcl_meaning.specs.State.{Command, built_in, procedure, Store}
use Rattle.tcl_meaning.specs.declared.page.BuiltIn.TheVariants as built
use Rattle.tcl_meaning.specs.declared.page.Page.{Page}
use Rattle.tcl_meaning.specs.declared.page.Page.TheVariants as page
use Rattle.tcl_code.specs.declared.inlined.Inlined.{Inlined}
use Rattle.tcl_code.specs.declared.inlined.Inlined.TheVariants as inlined
use Rattle.tcl_code.specs.Guards.{name_of, page_of, which, number_of, is_same, stands_for, stands}

numbered : ℕ → Inlined
numbered n = get_or (inlined.Set ∷ inlined.Incr ∷ inlined.Expr ∷ inlined.If ∷ inlined.While ∷ inlined.For ∷ inlined.Foreach ∷ inlined.Lmap ∷ inlined.Switch ∷ inlined.Return ∷ inlined.Break ∷ inlined.Continue ∷ []) n inlined.Set

by_number : (p : Inlined) → numbered (number_of p) ≡ p
unfolding numbered
by_number inlined.Set = refl
by_number inlined.Incr = refl
by_number inlined.Expr = refl
by_number inlined.If = refl
by_number inlined.While = refl
by_number inlined.For = refl
by_number inlined.Foreach = refl
by_number inlined.Lmap = refl
by_number inlined.Switch = refl
by_number inlined.Return = refl
by_number inlined.Break = refl
by_number inlined.Continue = refl

same_is : (p : Inlined) (o : Option Inlined) → is_same p o ≡ true → o ≡ Some p
same_is p None e = absurd (cc)
same_is p (Some q) e = ap Some (sym (by_number q) ∙ ap numbered (sym (eqb-true (number_of p) (number_of q) e)) ∙ by_number p)

which_is : (q : Page) (p : Inlined) → which q ≡ Some p → q ≡ page_of p
which_is (page.Pure x) p e = absurd (cc)
which_is (page.Update update.Append) p e = absurd (cc)
which_is (page.Update update.Incr) p e = let f : inlined.Incr ≡ p = cc in ap page_of f
which_is (page.Update update.Lappend) p e = absurd (cc)
which_is (page.Update update.Lset) p e = absurd (cc)
which_is (page.Update update.DictAppend) p e = absurd (cc)
which_is (page.Update update.DictIncr) p e = absurd (cc)
which_is (page.Update update.DictLappend) p e = absurd (cc)
which_is (page.Update update.DictSet) p e = absurd (cc)
which_is (page.Update update.DictUnset) p e = absurd (cc)
which_is (page.Seen x) p e = absurd (cc)
which_is page.Set p e = let f : inlined.Set ≡ p = cc in ap page_of f
which_is page.Unset p e = absurd (cc)
which_is page.Lassign p e = absurd (cc)
which_is page.ArraySet p e = absurd (cc)
which_is page.ArrayUnset p e = absurd (cc)
which_is page.Proc p e = absurd (cc)
which_is page.Apply p e = absurd (cc)
which_is page.Rename p e = absurd (cc)
which_is page.Uplevel p e = absurd (cc)
which_is page.Upvar p e = absurd (cc)
which_is page.Global p e = absurd (cc)
which_is page.If p e = let f : inlined.If ≡ p = cc in ap page_of f
which_is page.While p e = let f : inlined.While ≡ p = cc in ap page_of f
which_is page.For p e = let f : inlined.For ≡ p = cc in ap page_of f
which_is page.Foreach p e = let f : inlined.Foreach ≡ p = cc in ap page_of f
which_is page.Lmap p e = let f : inlined.Lmap ≡ p = cc in ap page_of f
which_is page.DictFor p e = absurd (cc)
which_is page.Switch p e = let f : inlined.Switch ≡ p = cc in ap page_of f
which_is page.Eval p e = absurd (cc)
which_is page.Expr p e = let f : inlined.Expr ≡ p = cc in ap page_of f
which_is page.Catch p e = absurd (cc)
which_is page.Return p e = let f : inlined.Return ≡ p = cc in ap page_of f
which_is page.Throw p e = absurd (cc)
which_is page.Try p e = absurd (cc)
which_is page.Error p e = absurd (cc)
which_is page.Break p e = let f : inlined.Break ≡ p = cc in ap page_of f
which_is page.Continue p e = let f : inlined.Continue ≡ p = cc in ap page_of f
which_is page.Exit p e = absurd (cc)
which_is page.Puts p e = absurd (cc)
which_is page.Gets p e = absurd (cc)
which_is page.Read p e = absurd (cc)
which_is page.Eof p e = absurd (cc)
which_is page.Flush p e = absurd (cc)

stands_by : (p : Inlined) (o : Option Command) → stands_for p o ≡ true → o ≡ Some (built_in (built.Page (page_of p)))
stands_by p None e = absurd (cc)
stands_by p (Some (procedure x)) e = absurd (cc)
stands_by p (Some (built_in (built.Ensemble x))) e = absurd (cc)
stands_by p (Some (built_in (built.Page q))) e = ap (λ x. Some (built_in (built.Page x))) (which_is q p (same_is p (which q) e))

-- the command of this name is its page
pub stands_is : (p : Inlined) (s : Store) → stands p s ≡ true → map.get s.commands (without_colons (name_of p)) ≡ Some (built_in (built.Page (page_of p)))
stands_is p s e = stands_by p (map.get s.commands (without_colons (name_of p))) e
