-- A text split at a character is joined by it again.
use Rattle.std.proofs.Common.{◌≡◌, ◌≢◌, ℕ, Bool, ◌==◌, List, [], ◌∷◌, ◌++◌, sym, ap, ◌∙◌, subst, refl, inl, inr}
use Rattle.std.proofs.Math.Bool.{or-false}
use Rattle.std.proofs.lemmas.Bool.{cases_Bool, cond-true, cond-false, eqb-true, eqb-false}
use Rattle.tcl_pages.specs.StringLaws.{NoneHolds, SplitIsJoined}
use Rattle.tcl_pages.specs.Strings.{is_among, onto_first, parts_between, joined_behind, joined_by}
use Rattle.tcl_pages.specs.Texts.{Text}

abbrev at : ℕ → ℕ → Bool
at s c = is_among (s ∷ []) c

-- There is a part, none holds the character, and joined they are the text.
record Joins (s : ℕ) (t : Text) (parts : List Text) : Type 0 where
  first : Text
  more : List Text
  some : parts ≡ first ∷ more
  none : NoneHolds s (first ∷ more)
  joined : first ++ joined_behind (s ∷ []) more ≡ t

begin_part : (s : ℕ) (t : Text) (parts : List Text) → Joins s t parts → Joins s (s ∷ t) ([] ∷ parts)
begin_part s t parts h = record {
  first = [];
  more = h.first ∷ h.more;
  some = ap (λ ps. [] ∷ ps) h.some;
  none = (tt, h.none);
  joined = ap (λ u. s ∷ u) h.joined;
}

go_on : (s c : ℕ) (t : Text) (parts : List Text) → c ≢ s → Joins s t parts → Joins s (c ∷ t) (onto_first c parts)
go_on s c t parts n h = record {
  first = c ∷ h.first;
  more = h.more;
  some = ap (onto_first c) h.some;
  none = ((n, h.none.0), h.none.1);
  joined = ap (λ u. c ∷ u) h.joined;
}

joins : (s : ℕ) (t : Text) → Joins s t (parts_between (at s) t)
joins s [] = record { first = []; more = []; some = refl; none = (tt, tt); joined = refl }
joins s (c ∷ cs) = elim (cases_Bool (s == c)) [
  | inl y ↦
      subst (Joins s (c ∷ cs)) (sym (cond-true _ _ _ (or-false (s == c) ∙ y)))
      (subst (λ d. Joins s (d ∷ cs) ([] ∷ parts_between (at s) cs)) (eqb-true s c y) (begin_part s cs _ (joins s cs)))
  | inr n ↦ subst (Joins s (c ∷ cs)) (sym (cond-false _ _ _ (or-false (s == c) ∙ n))) (go_on s c cs _ (λ e. eqb-false s c n (sym e)) (joins s cs))
]

pub split_is_joined : SplitIsJoined
split_is_joined s [] = (tt, refl)
split_is_joined s (c ∷ cs) =
    let h = joins s (c ∷ cs) in
    (subst (NoneHolds s) (sym h.some) h.none, ap (joined_by (s ∷ [])) h.some ∙ h.joined)
