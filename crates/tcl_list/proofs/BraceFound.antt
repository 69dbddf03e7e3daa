-- What the search for a closing brace found.
use Rattle.std.proofs.Common.{◌≡◌, ◌≢◌, ℕ, zero, suc, ◌==◌, Bool, true, false, not, ◌&&◌, List, [], ◌∷◌, ◌++◌, Option, Some, None, sym, ap, ◌∙◌, refl, arith}
use Rattle.std.specs.Option.{option_map_or}
use Rattle.std.proofs.lemmas.Bool.{cond_both, eqb-true, ne_eqb, false≢true}
use Rattle.tcl_chars.specs.Characters.{backslash, open_brace, close_brace}
use Rattle.tcl_list.specs.Braces.{mark_of, hides, counted, balances, to_close}
use Rattle.tcl_list.specs.declared.braces.Mark.{Mark}
use Rattle.tcl_list.specs.declared.braces.Mark.TheVariants.{Hides, Opens, Closes, Plain}

-- no front of the text balances before a closing brace, or the rest begins at the first one before which it does
abbrev pub Found : Bool → ℕ → List ℕ → Option (List ℕ) → Type 0
Found hidden depth cs None = (e rest : List ℕ) → balances hidden depth e ≡ true → cs ≢ e ++ close_brace ∷ rest
Found hidden depth cs (Some r) = (e : List ℕ) × (rest : List ℕ) × (r ≡ close_brace ∷ rest) × (cs ≡ e ++ close_brace ∷ rest) × (balances hidden depth e ≡ true)

-- a count that ends, ends at a closing brace
record AtEnd (hidden : Bool) (depth c : ℕ) : Type 0 where
  shown : hidden ≡ false
  outside : depth ≡ 0
  brace : c ≡ close_brace

mark_ends : (m : Mark) (depth : ℕ) → counted m depth ≡ None → (m ≡ Closes) × (depth ≡ 0)
mark_ends Hides depth h = absurd cc
mark_ends Opens depth h = absurd cc
mark_ends Closes zero h = (refl, refl)
mark_ends Closes (suc n) h = absurd cc
mark_ends Plain depth h = absurd cc

mark_closes : (hidden : Bool) (c : ℕ) → mark_of hidden c ≡ Closes → (hidden ≡ false) × (c ≡ close_brace)
mark_closes true c h = absurd cc
mark_closes false c h = (
  refl,
  cond_both (c == backslash) _ _ (λ m. m ≡ Closes → c ≡ close_brace) (λ _ e. absurd cc)
      (λ _. cond_both (c == open_brace) _ _ (λ m. m ≡ Closes → c ≡ close_brace) (λ _ e. absurd cc)
      (λ _. cond_both (c == close_brace) _ _ (λ m. m ≡ Closes → c ≡ close_brace) (λ t _. eqb-true c close_brace t) (λ _ e. absurd cc))) h,
)

ends_at : (hidden : Bool) (depth c : ℕ) → counted (mark_of hidden c) depth ≡ None → AtEnd hidden depth c
ends_at hidden depth c h =
    let m = mark_ends (mark_of hidden c) depth h in
    let k = mark_closes hidden c m.0 in
    record { shown = k.0; outside = m.1; brace = k.1 }

nothing_open : (hidden : Bool) (depth : ℕ) → hidden ≡ false → depth ≡ 0 → balances hidden depth [] ≡ true
nothing_open hidden depth h d = ap (λ b. not b && (depth == 0)) h ∙ ap (λ n. n == 0) d

-- where nothing is open, a closing brace ends the count
goes_on_not : (hidden : Bool) (depth c n : ℕ) → balances hidden depth [] ≡ true → c ≡ close_brace → counted (mark_of hidden c) depth ≡ Some n → ⊥
goes_on_not true depth c n h e k = absurd (false≢true h)
goes_on_not false zero c n h e k = let z : None ≡ Some n = sym (ap (λ x. counted (mark_of false x) 0) e) ∙ k in absurd cc
goes_on_not false (suc depth) c n h e k = absurd (false≢true (sym (ne_eqb (suc depth) 0 (λ z. omega arith)) ∙ h))

head_of : (c d : ℕ) (cs ds : List ℕ) → c ∷ cs ≡ d ∷ ds → (c ≡ d) × (cs ≡ ds)
head_of c d cs ds e = (cc, cc)

never : (hidden later : Bool) (depth c n : ℕ) (cs : List ℕ) → later ≡ hides (mark_of hidden c) → counted (mark_of hidden c) depth ≡ Some n → Found later n cs None → Found hidden depth (c ∷ cs) None
never hidden later depth c n cs l k h [] rest b same = goes_on_not hidden depth c n b (head_of c close_brace cs rest same).0 k
never hidden later depth c n cs l k h (x ∷ e) rest b same =
    let heads = head_of c x cs (e ++ close_brace ∷ rest) same in
    let first : option_map_or (λ m. balances (hides (mark_of hidden c)) m e) (counted (mark_of hidden c) depth) false ≡ true = ap (λ y. balances hidden depth (y ∷ e)) heads.0 ∙ b in
    let then : balances (hides (mark_of hidden c)) n e ≡ true = sym (ap (λ o. option_map_or (λ m. balances (hides (mark_of hidden c)) m e) o false) k) ∙ first in
    h e rest (ap (λ t. balances t n e) l ∙ then) heads.1

found_later : (hidden later : Bool) (depth c n : ℕ) (cs : List ℕ) (o : Option (List ℕ)) → later ≡ hides (mark_of hidden c) → counted (mark_of hidden c) depth ≡ Some n → Found later n cs o → Found hidden depth (c ∷ cs) o
found_later hidden later depth c n cs None l k h = never hidden later depth c n cs l k h
found_later hidden later depth c n cs (Some r) l k h =
    (c ∷ h.0, h.1, h.2, ap (λ t. c ∷ t) h.3, ap (λ o. option_map_or (λ m. balances (hides (mark_of hidden c)) m h.0) o false) k ∙ ap (λ t. balances t n h.0) (sym l) ∙ h.4)

found_by : (hidden : Bool) (depth c : ℕ) (cs : List ℕ) (o : Option ℕ) → counted (mark_of hidden c) depth ≡ o
    → ((n : ℕ) → Found (hides (mark_of hidden c)) n cs (to_close (hides (mark_of hidden c)) n cs))
    → Found hidden depth (c ∷ cs) (option_map_or (λ n. to_close (hides (mark_of hidden c)) n cs) o (Some (c ∷ cs)))
found_by hidden depth c cs None k later =
    let h = ends_at hidden depth c k in
    ([], cs, ap (λ x. x ∷ cs) h.brace, ap (λ x. x ∷ cs) h.brace, nothing_open hidden depth h.shown h.outside)
found_by hidden depth c cs (Some n) k later = found_later hidden (hides (mark_of hidden c)) depth c n cs (to_close (hides (mark_of hidden c)) n cs) refl k (later n)

found_none : (hidden : Bool) (depth : ℕ) → Found hidden depth [] None
found_none hidden depth [] rest b same = absurd cc
found_none hidden depth (x ∷ e) rest b same = absurd cc

pub found_close : (hidden : Bool) (depth : ℕ) (cs : List ℕ) → Found hidden depth cs (to_close hidden depth cs)
found_close hidden depth [] = found_none hidden depth
found_close hidden depth (c ∷ cs) = found_by hidden depth c cs (counted (mark_of hidden c) depth) refl (λ n. found_close (hides (mark_of hidden c)) n cs)
