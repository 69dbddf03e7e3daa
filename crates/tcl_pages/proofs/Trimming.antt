-- What is taken off a text is of the set, and what stays begins and ends outside of it.
use Rattle.std.proofs.Common.{◌≡◌, ℕ, Bool, true, false, [], ◌∷◌, ◌++◌, sym, ap, ◌∙◌, subst, refl, inl, inr}
use Rattle.std.specs.Prelude.{reverse}
use Rattle.std.proofs.lemmas.Bool.{cases_Bool, cond-true, cond-false}
use Rattle.std.proofs.lemmas.List.{reverse-append, reverse-reverse}
use Rattle.tcl_pages.specs.StringLaws.{AllAre, BeginsOutside, TrimsLeft, TrimsRight, TrimsBoth, TrimmedIsTrimmed}
use Rattle.tcl_pages.specs.Strings.{trimmed_left, trimmed_right, trimmed_both}
use Rattle.tcl_pages.specs.Texts.{Text}

more_off : (set : ℕ → Bool) (c : ℕ) (cs stays : Text) → set c ≡ true → TrimsLeft set cs stays → TrimsLeft set (c ∷ cs) stays
more_off set c cs stays y h = record { off = c ∷ h.off; joined = ap (λ u. c ∷ u) h.joined; of_set = (y, h.of_set); begins = h.begins }

begins_with_other : (set : ℕ → Bool) (c : ℕ) (cs : Text) → set c ≡ false → BeginsOutside set (c ∷ cs)
begins_with_other set c cs n d u e = ap set first ∙ n
  where
    first : d ≡ c
    first = cc

trims_left : (set : ℕ → Bool) (t : Text) → TrimsLeft set t (trimmed_left set t)
trims_left set [] = record { off = []; joined = refl; of_set = tt; begins = λ c u e. absurd cc }
trims_left set (c ∷ cs) = elim (cases_Bool (set c)) [
  | inl y ↦ subst (TrimsLeft set (c ∷ cs)) (sym (cond-true _ _ _ y)) (more_off set c cs _ y (trims_left set cs))
  | inr n ↦ subst (TrimsLeft set (c ∷ cs)) (sym (cond-false _ _ _ n)) (record { off = []; joined = refl; of_set = tt; begins = begins_with_other set c cs n })
]

all_joined : (set : ℕ → Bool) (s t : Text) → AllAre set s → AllAre set t → AllAre set (s ++ t)
all_joined set [] t h k = k
all_joined set (c ∷ cs) t h k = (h.0, all_joined set cs t h.1 k)

all_reversed : (set : ℕ → Bool) (t : Text) → AllAre set t → AllAre set (reverse t)
all_reversed set [] h = tt
all_reversed set (c ∷ cs) h = subst (AllAre set) (sym (reverse-append (c ∷ []) cs)) (all_joined set (reverse cs) (c ∷ []) (all_reversed set cs h.1) (h.0, tt))

trims_right : (set : ℕ → Bool) (t : Text) → TrimsRight set t (trimmed_right set t)
trims_right set t =
    let h = trims_left set (reverse t) in
    let kept : Text = trimmed_left set (reverse t) in record {
      off = reverse h.off;
      joined = sym (reverse-reverse t) ∙ ap reverse h.joined ∙ reverse-append h.off kept;
      of_set = all_reversed set h.off h.of_set;
      ends = λ u c e. h.begins c (reverse u) (sym (reverse-reverse kept) ∙ ap reverse e ∙ reverse-append u (c ∷ []));
    }

trims_both : (set : ℕ → Bool) (t : Text) → TrimsBoth set t (trimmed_both set t)
trims_both set t =
    let l = trims_left set t in
    let r = trims_right set (trimmed_left set t) in
    record {
      left = l.off;
      right = r.off;
      joined = l.joined ∙ ap (λ u. l.off ++ u) r.joined;
      left_of_set = l.of_set;
      right_of_set = r.of_set;
      begins = λ c u e. l.begins c (u ++ r.off) (r.joined ∙ ap (λ s. s ++ r.off) e);
      ends = r.ends;
    }

pub trimmed_is_trimmed : TrimmedIsTrimmed
trimmed_is_trimmed set t = (trims_left set t, trims_right set t, trims_both set t)
