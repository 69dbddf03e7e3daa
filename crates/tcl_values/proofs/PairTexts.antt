-- Dictionaries that are written read as their pairs (dict(n)).
use Rattle.std.proofs.Common.{◌≡◌, Bool, true, false, List, [], ◌∷◌, ◌++◌, Ok, Err, refl, sym, ap, ◌∙◌, append_assoc, subst}
use Rattle.std.proofs.lemmas.Bool.{cond-true, cond-false, or_from, or_parts}
use Rattle.std.proofs.lemmas.List.{append-nil}
use Rattle.tcl_chars.proofs.Same.{text_is, same_symm}
use Rattle.tcl_chars.specs.Texts.{same_text}
use Rattle.tcl_list.specs.Elements.{elements_of}
use Rattle.tcl_pages.specs.Answers.{Answer, ◌>>=◌}
use Rattle.tcl_pages.specs.Dictionaries.{Pairs, put_key, put_keys, in_pairs, pairs_of}
use Rattle.tcl_pages.specs.DictPages.{flat, dictionary, without_key}
use Rattle.tcl_pages.proofs.InPairs.{with_pair, pair_ahead}
use Rattle.tcl_pages.specs.Texts.{Text}
use Rattle.tcl_values.specs.Kept.{Kept, texts}
use Rattle.tcl_values.specs.Paired.{has_key, AreDistinct, read_pairs}
use Rattle.tcl_values.proofs.Joined.{reads_written}

-- ---- no key stands twice

still_new : (ps : Pairs) (k v q : Text) → has_key q ps ≡ false → same_text k q ≡ false → has_key q (put_key ps k v) ≡ false
still_new [] k v q h s = or_from (same_text k q) false s refl
still_new (p ∷ ps) k v q h s = by (same_text p.0 k) refl (λ n. still_new ps k v q n s)
  where
    by : (b : Bool) → same_text p.0 k ≡ b → (has_key q ps ≡ false → has_key q (put_key ps k v) ≡ false) → has_key q (put_key (p ∷ ps) k v) ≡ false
    by true e rest = ap (has_key q) (cond-true _ ((k, v) ∷ ps) (p ∷ put_key ps k v) e) ∙ or_from _ _ s (or_parts (same_text p.0 q) (has_key q ps) h).1
    by false e rest =
        let parts = or_parts (same_text p.0 q) (has_key q ps) h in
        ap (has_key q) (cond-false _ ((k, v) ∷ ps) (p ∷ put_key ps k v) e) ∙ or_from _ _ parts.0 (rest parts.1)

pub distinct_put : (ps : Pairs) (k v : Text) → AreDistinct ps → AreDistinct (put_key ps k v)
distinct_put [] k v d = (refl, tt)
distinct_put (p ∷ ps) k v d = by (same_text p.0 k) refl (distinct_put ps k v d.1)
  where
    by : (b : Bool) → same_text p.0 k ≡ b → AreDistinct (put_key ps k v) → AreDistinct (put_key (p ∷ ps) k v)
    by true e rest = subst AreDistinct (sym (cond-true _ ((k, v) ∷ ps) (p ∷ put_key ps k v) e)) (subst (λ t. has_key t ps ≡ false) (text_is p.0 k e) d.0, d.1)
    by false e rest = subst AreDistinct (sym (cond-false _ ((k, v) ∷ ps) (p ∷ put_key ps k v) e)) (still_new ps k v p.0 d.0 (same_symm k p.0 ∙ e), rest)

distinct_puts : (ps qs : Pairs) → AreDistinct qs → AreDistinct (put_keys qs ps)
distinct_puts [] qs d = d
distinct_puts (p ∷ ps) qs d = distinct_puts ps (put_key qs p.0 p.1) (distinct_put qs p.0 p.1 d)

fewer : (ps : Pairs) (k q : Text) → has_key q ps ≡ false → has_key q (without_key k ps) ≡ false
fewer [] k q h = h
fewer (p ∷ ps) k q h = by (same_text p.0 k) refl (λ n. fewer ps k q n)
  where
    parts : (same_text p.0 q ≡ false) × (has_key q ps ≡ false)
    parts = or_parts (same_text p.0 q) (has_key q ps) h

    by : (b : Bool) → same_text p.0 k ≡ b → (has_key q ps ≡ false → has_key q (without_key k ps) ≡ false) → has_key q (without_key k (p ∷ ps)) ≡ false
    by true e rest = ap (has_key q) (cond-true _ ps (p ∷ without_key k ps) e) ∙ parts.1
    by false e rest = ap (has_key q) (cond-false _ ps (p ∷ without_key k ps) e) ∙ or_from _ _ parts.0 (rest parts.1)

pub distinct_without : (ps : Pairs) (k : Text) → AreDistinct ps → AreDistinct (without_key k ps)
distinct_without [] k d = d
distinct_without (p ∷ ps) k d = by (same_text p.0 k) refl (distinct_without ps k d.1)
  where
    by : (b : Bool) → same_text p.0 k ≡ b → AreDistinct (without_key k ps) → AreDistinct (without_key k (p ∷ ps))
    by true e rest = subst AreDistinct (sym (cond-true _ ps (p ∷ without_key k ps) e)) d.1
    by false e rest = subst AreDistinct (sym (cond-false _ ps (p ∷ without_key k ps) e)) (fewer ps k p.0 d.0, rest)

-- ---- what is written is read

put_new : (ps : Pairs) (k v : Text) → has_key k ps ≡ false → put_key ps k v ≡ ps ++ (k, v) ∷ []
put_new [] k v h = refl
put_new (p ∷ ps) k v h =
    let parts = or_parts (same_text p.0 k) (has_key k ps) h in
    cond-false _ _ _ parts.0 ∙ ap (λ qs. p ∷ qs) (put_new ps k v parts.1)

other_key : (qs : Pairs) (p : Text × Text) (ps : Pairs) (q : Text) → has_key q (qs ++ p ∷ ps) ≡ false → same_text p.0 q ≡ false
other_key [] p ps q h = (or_parts (same_text p.0 q) (has_key q ps) h).0
other_key (r ∷ qs) p ps q h = other_key qs p ps q (or_parts (same_text r.0 q) (has_key q (qs ++ p ∷ ps)) h).1

new_key : (qs : Pairs) (p : Text × Text) (ps : Pairs) → AreDistinct (qs ++ p ∷ ps) → has_key p.0 qs ≡ false
new_key [] p ps d = refl
new_key (q ∷ qs) p ps d = or_from _ _ (same_symm q.0 p.0 ∙ other_key qs p ps q.0 d.0) (new_key qs p ps d.1)

puts_back : (qs ps : Pairs) → AreDistinct (qs ++ ps) → put_keys qs ps ≡ qs ++ ps
puts_back qs [] d = sym (append-nil qs)
puts_back qs (p ∷ ps) d =
    let joined : (qs ++ p ∷ []) ++ ps ≡ qs ++ p ∷ ps = append_assoc qs (p ∷ []) ps in
    ap (λ rs. put_keys rs ps) (put_new qs p.0 p.1 (new_key qs p ps d)) ∙ puts_back (qs ++ p ∷ []) ps (subst AreDistinct (sym joined) d) ∙ joined

in_flat : (ps : Pairs) → in_pairs (flat ps) ≡ Ok ps
in_flat [] = refl
in_flat (p ∷ ps) = pair_ahead _ p.0 p.1 (flat ps) ∙ ap (with_pair p.0 p.1) (in_flat ps)

pub reads_flat : (ps : Pairs) → elements_of (dictionary ps) ≡ Ok (flat ps)
reads_flat ps = reads_written (flat ps)

reads_pairs : (ps : Pairs) → AreDistinct ps → pairs_of (dictionary ps) ≡ Ok ps
unfolding pairs_of
reads_pairs ps d = ap (λ r. r >>= read_pairs []) (reads_written (flat ps)) ∙ ap (λ r. r >>= λ qs. Ok (put_keys [] qs)) (in_flat ps) ∙ ap Ok (puts_back [] ps d)

ok_is : (r : Answer Pairs) (ps qs : Pairs) → r ≡ Ok ps → r ≡ Ok qs → ps ≡ qs
ok_is r ps qs e f = cc

no_err : (r : Answer Pairs) (t : Text) (ps : Pairs) → r ≡ Err t → r ≡ Ok ps → ⊥
no_err r t ps e f = cc

-- what a text is read as has no key twice
distinct_in : (r : Answer Pairs) (ps : Pairs) → (r >>= λ qs. Ok (put_keys [] qs)) ≡ Ok ps → AreDistinct ps
distinct_in (Ok qs) ps e = subst AreDistinct (ok_is _ (put_keys [] qs) ps refl e) (distinct_puts qs [] tt)
distinct_in (Err t) ps e = absurd (no_err _ t ps refl e)

distinct_of : (r : Answer (List Text)) (ps : Pairs) → (r >>= read_pairs []) ≡ Ok ps → AreDistinct ps
distinct_of (Ok es) ps e = distinct_in (in_pairs es) ps e
distinct_of (Err t) ps e = absurd (no_err _ t ps refl e)

pub distinct_read : (t : Text) (ps : Pairs) → pairs_of t ≡ Ok ps → AreDistinct ps
unfolding pairs_of
distinct_read t ps e = distinct_of (elements_of t) ps e

-- the pairs of a text, one put or taken out, are read when they are written
pub reads_put : (t : Text) (ps qs : Pairs) (k v : Text) → pairs_of t ≡ Ok ps → qs ≡ put_key ps k v → pairs_of (dictionary qs) ≡ Ok qs
reads_put t ps qs k v e is = reads_pairs qs (subst AreDistinct (sym is) (distinct_put ps k v (distinct_read t ps e)))

pub reads_without : (t : Text) (ps qs : Pairs) (k : Text) → pairs_of t ≡ Ok ps → qs ≡ without_key k ps → pairs_of (dictionary qs) ≡ Ok qs
reads_without t ps qs k e is = reads_pairs qs (subst AreDistinct (sym is) (distinct_without ps k (distinct_read t ps e)))

pub reads_none : pairs_of (dictionary []) ≡ Ok []
reads_none = reads_pairs [] tt

pub reads_again : (t : Text) (ps : Pairs) → pairs_of t ≡ Ok ps → pairs_of (dictionary ps) ≡ Ok ps
reads_again t ps e = reads_pairs ps (distinct_read t ps e)

-- ---- elements two by two

two_in : (ps : Pairs) (k v : Text) (r : Answer Pairs) → (r >>= λ qs. Ok (put_keys (put_key ps k v) qs)) ≡ (with_pair k v r >>= λ qs. Ok (put_keys ps qs))
two_in ps k v (Ok qs) = refl
two_in ps k v (Err t) = refl

pub read_two : (ps new : Pairs) (rest behind after : List Kept) (k v : Kept) (kt vt : Text) → rest ≡ k ∷ behind → behind ≡ v ∷ after → kt ≡ k.text → vt ≡ v.text → new ≡ put_key ps kt vt → read_pairs new (texts after) ≡ read_pairs ps (texts rest)
read_two ps new rest behind after k v kt vt r b ke ve n =
    ap (λ qs. read_pairs qs (texts after)) (n ∙ (λ i. put_key ps (ke i) (ve i)))
    ∙ two_in ps k.text v.text (in_pairs (texts after)) ∙ ap (λ r. r >>= λ qs. Ok (put_keys ps qs)) (sym (pair_ahead _ k.text v.text (texts after)))
    ∙ sym (ap (λ es. read_pairs ps (texts es)) (r ∙ ap (λ es. k ∷ es) b))
