-- Where a text is known to be empty, or not to be.
use Rattle.std.proofs.Common.{◌≡◌, ℕ, zero, suc, false, List, [], ◌∷◌, length, Ok, refl, ap, sym, ◌∙◌}
use Rattle.std.specs.Prelude.{nat_eq, nat_lt}
use Rattle.std.specs.Bool.{OnTrue}
use Rattle.std.specs.Cmp.Lexicographic.{slice_cmp}
use Rattle.std.specs.Ordering.{nat_cmp}
use Rattle.std.specs.declared.cmp.Ordering.TheVariants.{Greater}
use Rattle.std.proofs.lemmas.Bool.{OnTrue_from, ne_eqb}
use Rattle.tcl_chars.specs.Texts.{same_text}
use Rattle.tcl_chars.specs.Whole.{whole_of, magnitude}
use Rattle.tcl_chars.specs.declared.numbers.Dialect.{Dialect}
use Rattle.tcl_chars.specs.declared.numbers.Whole.{Whole}
use Rattle.tcl_chars.specs.declared.numbers.Whole.TheVariants as whole
use Rattle.tcl_list.specs.Spelling.{Reads, nothing}
use Rattle.tcl_list.specs.Written.{written}
use Rattle.tcl_list.proofs.Lists.{no_elements}
use Rattle.tcl_list.proofs.OneList.{one_list}
use Rattle.tcl_list.proofs.Spelled.{written_is_spelled}
use Rattle.tcl_meaning.specs.Operators.{compared}
use Rattle.tcl_pages.specs.Answers.{Answer, ◌>>=◌}
use Rattle.tcl_pages.specs.Dictionaries.{pairs_of, in_pairs, put_keys}
use Rattle.tcl_pages.specs.Texts.{Text}
use Rattle.tcl_values.specs.Dictionaries.{size_of}

-- ---- lists

-- a text that spells an element has a character
spells_some : (t e : Text) (es : List Text) → Reads t (e ∷ es) → false ≡ same_text t []
spells_some [] e es r = let none : (e ∷ es) ≡ [] = one_list [] (e ∷ es) [] r nothing in cc
spells_some (c ∷ cs) e es r = refl

some_elements : (es : List Text) → nat_eq (length es) 0 ≡ same_text (written es) []
some_elements [] = refl
some_elements (e ∷ es) = ne_eqb (suc (length es)) 0 (λ h. cc) ∙ spells_some (written (e ∷ es)) e es (written_is_spelled (e ∷ es))

-- The text of a list is empty where the list is.
pub empty_list : (es : List Text) (t : Text) (n : ℕ) → t ≡ written es → n ≡ length es → nat_eq n 0 ≡ same_text t []
empty_list es t n w l = ap (λ k. nat_eq k 0) l ∙ some_elements es ∙ ap (λ u. same_text u []) (sym w)

-- ---- dictionaries

no_pairs : size_of [] ≡ Ok 0
unfolding pairs_of
no_pairs = ap (λ r. (r >>= λ es. in_pairs es >>= λ ps. Ok (put_keys [] ps)) >>= λ ps. Ok (length ps)) no_elements

one_size : (m n : ℕ) (r : Answer ℕ) → r ≡ Ok m → r ≡ Ok n → m ≡ n
one_size m n r e f = cc

-- A text that is read as a dictionary with a key has a character.
pub some_keys : (t : Text) (n : ℕ) → size_of t ≡ Ok n → OnTrue (nat_lt 0 n) (same_text t [] ≡ false)
some_keys [] zero h = tt
some_keys [] (suc n) h = let none : suc n ≡ 0 = one_size (suc n) 0 (size_of []) h no_pairs in cc
some_keys (c ∷ cs) n h = OnTrue_from (nat_lt 0 n) (same_text (c ∷ cs) [] ≡ false) (λ _. refl)

-- ---- orders

pub beyond_nothing : (t : Text) → false ≡ same_text t [] → Greater ≡ slice_cmp nat_cmp t []
beyond_nothing [] h = cc
beyond_nothing (c ∷ cs) h = refl

nothing_is_no_number : (dialect : Dialect) → whole_of dialect [] ≡ whole.Not
unfolding whole_of magnitude
nothing_is_no_number dialect = refl

beside_no_number : (a : Text) (w : Whole) → compared a [] w whole.Not ≡ Ok (slice_cmp nat_cmp a [])
beside_no_number a (whole.Number z) = refl
beside_no_number a whole.TooLarge = refl
beside_no_number a whole.Not = refl

-- What is compared to the empty text is compared as a text.
pub compared_to_nothing : (dialect : Dialect) (a b : Text) → b ≡ [] → compared a b (whole_of dialect a) (whole_of dialect b) ≡ Ok (slice_cmp nat_cmp a [])
compared_to_nothing dialect a b e =
    ap (λ t. compared a t (whole_of dialect a) (whole_of dialect t)) e
    ∙ ap (compared a [] (whole_of dialect a)) (nothing_is_no_number dialect)
    ∙ beside_no_number a (whole_of dialect a)
