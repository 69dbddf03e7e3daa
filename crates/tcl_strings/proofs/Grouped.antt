-- A key stands in the group of its first character, and the first of all pairs that fits is the first there.
use Rattle.std.proofs.Common.{◌≡◌, ◌<◌, ◌≤◌, ◌-◌, ◌==◌, ℕ, zero, suc, Bool, false, ◌&&◌, List, [], ◌∷◌, ◌++◌, append_assoc, length, get_or, take, drop, refl, sym, ap, ◌∙◌, subst, arith, inl, inr, Option, None, Some}
use Rattle.std.specs.Prelude.{filter, cond}
use Rattle.std.proofs.lemmas.Bool.{cases_Bool, cond-true, cond-false, ne_eqb, eqb-true, eq-eqb, false≢true}
use Rattle.std.proofs.lemmas.List.{get_or-set_same, get_or-set_other, append-nil, length-set, take_all}
use Rattle.std.proofs.lemmas.List.Elements.{filter-append}
use Rattle.tcl_chars.specs.Truth.{is_beginning}
use Rattle.tcl_pages.specs.Dictionaries.{pairs}
use Rattle.tcl_pages.specs.Strings.{pair_for, key_begins}
use Rattle.tcl_pages.specs.Texts.{Text}
use Rattle.tcl_strings.specs.Taken.{taken_by}
use Rattle.tcl_strings.specs.Grouped.{Pair, group_of, falls_into, Grouped, GroupedUpTo, behind_others, put, put_by, with_pair, pair_among}
use Rattle.tcl_values.specs.Kept.{Kept, texts}

-- a key that doesn't fall into the group of a text's first character doesn't begin the text
skipped : (n c : ℕ) (cs key : Text) → falls_into n (group_of n c) key ≡ false → key_begins key (c ∷ cs) ≡ false
skipped n c cs [] h = refl
skipped n c cs (k ∷ ks) h = ap (λ b. b && is_beginning ks cs) (ne_eqb k c (λ e. false≢true (sym h ∙ eq-eqb (group_of n k) (group_of n c) (ap (group_of n) e))))

found_still : (n c : ℕ) (cs : Text) (ps : List Pair) → pair_for (filter (λ p. falls_into n (group_of n c) p.0) ps) (c ∷ cs) ≡ pair_for ps (c ∷ cs)
found_still n c cs [] = refl
found_still n c cs (p ∷ ps) =
    elim (cases_Bool (falls_into n (group_of n c) p.0)) [
      | inl t ↦ ap (λ qs. pair_for qs (c ∷ cs)) (cond-true _ _ _ t) ∙ ap (λ r. cond (key_begins p.0 (c ∷ cs)) (Some p) r) (found_still n c cs ps)
      | inr f ↦ ap (λ qs. pair_for qs (c ∷ cs)) (cond-false _ _ _ f) ∙ found_still n c cs ps ∙ sym (cond-false _ _ _ (skipped n c cs p.0 f))
    ]

empty_begun : (key : Text) → key_begins key [] ≡ false
empty_begun [] = refl
empty_begun (k ∷ ks) = refl

no_key : (ps : List Pair) → pair_for ps [] ≡ None
no_key [] = refl
no_key (p ∷ ps) = cond-false _ _ _ (empty_begun p.0) ∙ no_key ps

pair_found : (ps : List Pair) (groups : List (List Pair)) (t : Text) → Grouped ps groups → pair_among groups t ≡ pair_for ps t
pair_found ps groups [] g = sym (no_key ps)
pair_found ps groups (c ∷ cs) g =
    let below : group_of (length groups) c < length groups = let some = g.some in omega arith in
    ap (λ qs. pair_for qs (c ∷ cs)) (g.each (group_of (length groups) c) below) ∙ found_still (length groups) c cs ps

pub pair_taken : (ps : List Pair) (groups slice : List (List Pair)) (t : Text) (o : Option Pair) → Grouped ps groups → slice ≡ groups → o ≡ taken_by (pair_among slice t) t → o ≡ taken_by (pair_for ps t) t
pair_taken ps groups slice t o g s e = e ∙ ap (λ gs. taken_by (pair_among gs t) t) s ∙ ap (λ p. taken_by p t) (pair_found ps groups t g)

-- ---- another pair

-- the group k is as it was, or has the pair at its end
put_at : (ps : List Pair) (groups : List (List Pair)) (c : ℕ) (p : Pair) (key : Text) → p.0 ≡ c ∷ key → Grouped ps groups → (k : ℕ) → k < length groups
    → get_or (put (group_of (length groups) c) p groups) k [] ≡ filter (λ q. falls_into (length groups) k q.0) (ps ++ p ∷ [])
put_at ps groups c p key e g k h =
    elim (cases_Bool (group_of (length groups) c == k)) [
      | inl t ↦ ap (λ j. get_or (put j p groups) k []) (eqb-true (group_of (length groups) c) k t) ∙ get_or-set_same groups k (get_or groups k [] ++ p ∷ []) [] h ∙ ap (λ qs. qs ++ p ∷ []) (g.each k h)
          ∙ sym (filter-append falls ps (p ∷ []) ∙ ap (λ qs. filter falls ps ++ qs) (cond-true _ _ _ (ap (falls_into (length groups) k) e ∙ t)))
      | inr f ↦ get_or-set_other groups (group_of (length groups) c) k (get_or groups (group_of (length groups) c) [] ++ p ∷ []) [] (λ q. false≢true (sym f ∙ eq-eqb (group_of (length groups) c) k (sym q))) ∙ g.each k h
          ∙ sym (filter-append falls ps (p ∷ []) ∙ ap (λ qs. filter falls ps ++ qs) (cond-false _ _ _ (ap (falls_into (length groups) k) e ∙ f)) ∙ append-nil _)
    ]
  where
    falls : Pair → Bool
    falls q = falls_into (length groups) k q.0

one_put : (ps : List Pair) (groups : List (List Pair)) (c : ℕ) (p : Pair) (key : Text) → p.0 ≡ c ∷ key → Grouped ps groups → Grouped (ps ++ p ∷ []) (put (group_of (length groups) c) p groups)
one_put ps groups c p key e g =
    let same : length (put (group_of (length groups) c) p groups) ≡ length groups = length-set groups _ _ in
    record {
      some = subst (λ n. 0 < n) (sym same) g.some;
      each = subst (λ n. (k : ℕ) → k < n → get_or (put (group_of (length groups) c) p groups) k [] ≡ filter (λ q. falls_into n k q.0) (ps ++ p ∷ [])) (sym same) (put_at ps groups c p key e g);
    }

one_without : (ps : List Pair) (groups : List (List Pair)) (p : Pair) → p.0 ≡ [] → Grouped ps groups → Grouped (ps ++ p ∷ []) groups
one_without ps groups p e g = record {
  some = g.some;
  each = λ k h. g.each k h ∙ sym (filter-append (λ (q : Pair). falls_into (length groups) k q.0) ps (p ∷ []) ∙ ap (λ qs. filter (λ (q : Pair). falls_into (length groups) k q.0) ps ++ qs) (cond-false _ _ _ (ap (falls_into (length groups) k) e)) ∙ append-nil _);
}

one_more : (ps : List Pair) (groups : List (List Pair)) (p : Pair) → Grouped ps groups → Grouped (ps ++ p ∷ []) (with_pair p groups)
one_more ps groups p g = by_key p.0 refl
  where
    by_key : (key : Text) → p.0 ≡ key → Grouped (ps ++ p ∷ []) (put_by key p groups)
    by_key [] e = one_without ps groups p e g
    by_key (c ∷ cs) e = one_put ps groups c p cs e g

next_put : (all rest : List Pair) (old new : List (List Pair)) (p : Pair) → new ≡ with_pair p old → GroupedUpTo all (p ∷ rest) old → GroupedUpTo all rest new
next_put all rest old new p e g = record {
  front = g.front ++ p ∷ [];
  grouped = subst (Grouped (g.front ++ p ∷ [])) (sym e) (one_more g.front old p g.grouped);
  joined = append_assoc g.front (p ∷ []) rest ∙ g.joined;
}

pub all_put : (all rest : List Pair) (groups : List (List Pair)) → rest ≡ [] → GroupedUpTo all rest groups → Grouped all groups
all_put all rest groups e g = subst (λ ps. Grouped ps groups) (sym (append-nil g.front) ∙ ap (λ r. g.front ++ r) (sym e) ∙ g.joined) g.grouped

-- ---- no pair yet

pub none_more : (groups : List (List Pair)) → ((k : ℕ) → get_or groups k [] ≡ []) → (k : ℕ) → get_or (groups ++ [] ∷ []) k [] ≡ []
none_more [] h zero = refl
none_more [] h (suc k) = refl
none_more (g ∷ groups) h zero = h 0
none_more (g ∷ groups) h (suc k) = none_more groups (λ j. h (suc j)) k

-- ---- keys and values in turn

pub few : (ts : List Text) → length ts < 2 → pairs ts ≡ []
few [] h = refl
few (k ∷ []) h = refl
few (k ∷ v ∷ ts) h = absurd (omega arith)

two : (ts : List Text) (k v : Text) → 2 ≤ length ts → k ≡ get_or ts 0 k → v ≡ get_or ts 1 v → pairs ts ≡ (k, v) ∷ pairs (take (length ts - 2) (drop 2 ts))
two [] k v h e f = absurd (omega arith)
two (a ∷ []) k v h e f = absurd (omega arith)
two (a ∷ b ∷ ts) k v h e f =
    let rest : take (length (a ∷ b ∷ ts) - 2) ts ≡ ts = take_all _ ts (omega arith) in
    ap (λ x. (x, b) ∷ pairs ts) (sym e) ∙ ap (λ y. (k, y) ∷ pairs ts) (sym f) ∙ ap (λ r. (k, v) ∷ pairs r) (sym rest)

pub next_two : (all : List Pair) (ts : List Text) (k v : Text) (key value : Text) (old new : List (List Pair)) → 2 ≤ length ts → k ≡ get_or ts 0 k → v ≡ get_or ts 1 v → key ≡ k → value ≡ v
    → new ≡ with_pair (key, value) old → GroupedUpTo all (pairs ts) old → GroupedUpTo all (pairs (take (length ts - 2) (drop 2 ts))) new
next_two all ts k v key value old new h e f s t n g =
    next_put all (pairs (take (length ts - 2) (drop 2 ts))) old new (k, v) (n ∙ ap (λ a. with_pair (a, value) old) s ∙ ap (λ b. with_pair (k, b) old) t) (subst (λ rest. GroupedUpTo all rest old) (two ts k v h e f) g)

-- ---- keys and values in turn in one group

one_group : (c : ℕ) → group_of 1 c ≡ 0
one_group c = omega arith

in_one : (key : Text) (p : Pair) (g : List Pair) → (behind_others key p g ∷ []) ≡ put_by key p (g ∷ [])
in_one [] p g = refl
in_one (c ∷ cs) p g = sym (ap (λ k. put k p (g ∷ [])) (one_group c))

two_kept : (ks : List Kept) (k v : Kept) → 2 ≤ length ks → k ≡ get_or ks 0 k → v ≡ get_or ks 1 v → pairs (texts ks) ≡ (k.text, v.text) ∷ pairs (texts (take (length ks - 2) (drop 2 ks)))
two_kept [] k v h e f = absurd (omega arith)
two_kept (a ∷ []) k v h e f = absurd (omega arith)
two_kept (a ∷ b ∷ ks) k v h e f =
    let rest : take (length (a ∷ b ∷ ks) - 2) ks ≡ ks = take_all _ ks (omega arith) in
    ap (λ (x : Kept). (x.text, b.text) ∷ pairs (texts ks)) (sym e) ∙ ap (λ (y : Kept). (k.text, y.text) ∷ pairs (texts ks)) (sym f) ∙ ap (λ r. (k.text, v.text) ∷ pairs (texts r)) (sym rest)

pub next_kept : (all : List Pair) (ks : List Kept) (k v : Kept) (key value : Text) (old new : List Pair) → 2 ≤ length ks → k ≡ get_or ks 0 k → v ≡ get_or ks 1 v → key ≡ k.text → value ≡ v.text
    → new ≡ behind_others key (key, value) old → GroupedUpTo all (pairs (texts ks)) (old ∷ []) → GroupedUpTo all (pairs (texts (take (length ks - 2) (drop 2 ks)))) (new ∷ [])
next_kept all ks k v key value old new h e f s t n g =
    next_put all (pairs (texts (take (length ks - 2) (drop 2 ks)))) (old ∷ []) (new ∷ []) (k.text, v.text)
    (ap (λ x. x ∷ []) n ∙ in_one key (key, value) old ∙ ap (λ a. with_pair (a, value) (old ∷ [])) s ∙ ap (λ b. with_pair (k.text, b) (old ∷ [])) t)
    (subst (λ rest. GroupedUpTo all rest (old ∷ [])) (two_kept ks k v h e f) g)
