-- The orders of lsort are strict.
use Rattle.std.proofs.Common.{◌≡◌, Bool, true, false, ℤ, sym, ◌∙◌, refl}
use Rattle.std.specs.Prelude.{cond, int_lt}
use Rattle.std.specs.Cmp.{IsStrictWeakOrder, int_cmp_total}
use Rattle.std.specs.Cmp.Lexicographic.{nat_list_cmp_total}
use Rattle.std.specs.Ordering.{is_lt, int_cmp}
use Rattle.std.specs.declared.cmp.Ordering.TheVariants.{Less, Equal, Greater}
use Rattle.std.proofs.lemmas.List.MinMax.{ranks_by, IsStrictWeakOrder-flip}
use Rattle.tcl_pages.specs.SortLaws.{OrdersAreStrict}
use Rattle.tcl_pages.specs.Sorting.{stands_before, number_before}
use Rattle.tcl_pages.specs.Texts.{Text}

texts_strict : IsStrictWeakOrder stands_before
texts_strict = ranks_by nat_list_cmp_total (λ (t : Text). t)

is_first : (a b : Bool) → is_lt (cond a Less (cond b Greater Equal)) ≡ a
is_first true b = refl
is_first false true = refl
is_first false false = refl

same_test : (x y : ℤ × Text) → is_lt (int_cmp x.0 y.0) ≡ number_before x y
same_test x y = is_first (int_lt x.0 y.0) (int_lt y.0 x.0)

numbers_strict : IsStrictWeakOrder number_before
numbers_strict =
    let ranked = ranks_by int_cmp_total (λ (x : ℤ × Text). x.0) in
    record {
      one_way = λ x y h. sym (same_test y x) ∙ ranked.one_way x y (same_test x y ∙ h);
      chain = λ x y z h k. sym (same_test x z) ∙ ranked.chain x y z (same_test x y ∙ h) (same_test y z ∙ k);
    }

pub orders_are_strict : OrdersAreStrict
orders_are_strict false = (texts_strict, numbers_strict)
orders_are_strict true = (IsStrictWeakOrder-flip stands_before texts_strict, IsStrictWeakOrder-flip number_before numbers_strict)
