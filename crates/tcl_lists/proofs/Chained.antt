-- Written lists joined as words: nothing of them is trimmed, and what comes of it is the list of all their elements.
use Rattle.std.proofs.Common.{◌≡◌, ℕ, zero, suc, ◌+◌, ◌<◌, ◌==◌, Bool, true, false, not, ◌&&◌, ◌||◌, List, [], ◌∷◌, ◌++◌, Option, Some, None, take, length, get_or, append_assoc, refl, sym, ap, ◌∙◌, subst, arith}
use Rattle.std.specs.Prelude.{cond}
use Rattle.std.proofs.lemmas.Bool.{cond_both, and_parts, false≢true}
use Rattle.std.proofs.lemmas.List.{append-nil}
use Rattle.std.proofs.Math.Seq.{take-length}
use Rattle.tcl_chars.specs.Characters.{backslash, space, open_brace, close_brace, number_sign}
use Rattle.tcl_chars.specs.Classes.{is_list_space}
use Rattle.tcl_chars.specs.Place.{begins}
use Rattle.tcl_chars.specs.Whole.{skip_space}
use Rattle.tcl_list.specs.Braces.{is_balanced}
use Rattle.tcl_list.specs.Written.{is_special, needs_no_backslash, is_continued, is_comment, element_form, behind_backslash, backslashed, all_escaped, spelled, written_element, appended, written_behind, written}
use Rattle.tcl_list.proofs.Escapes.{bare_alone}
use Rattle.tcl_lists.specs.Joined.{is_empty, with_word, begins_sign}
use Rattle.tcl_lists.specs.WordAt.{word}
use Rattle.tcl_lists.proofs.Joining.{trimmed_at, concat_step, stands_first, stands_behind}
use Rattle.tcl_pages.specs.Lists.{trimmed_end, trimmed, concat}
use Rattle.tcl_pages.specs.Texts.{Text}

-- ---- a text of which nothing is trimmed at its end

record IsFirm (t : Text) : Type 0 where
  full : is_empty t ≡ false
  same : (front : Text) → trimmed_end (front ++ t) ≡ front ++ t

firm_front : (c : ℕ) (t : Text) → IsFirm t → IsFirm (c ∷ t)
firm_front c t f = record { full = refl; same = λ front. ap trimmed_end (sym (append_assoc front (c ∷ []) t)) ∙ f.same (front ++ c ∷ []) ∙ append_assoc front (c ∷ []) t }

firm_append : (a t : Text) → IsFirm t → IsFirm (a ++ t)
firm_append [] t f = f
firm_append (c ∷ a) t f = firm_front c (a ++ t) (firm_append a t f)

firm_char : (c : ℕ) → is_list_space c ≡ false → IsFirm (c ∷ [])
firm_char c h = record {
  full = refl;
  same = λ front. ap trimmed_end (sym (append-nil (front ++ c ∷ []))) ∙ trimmed_at front [] c (cond (c == backslash) 1 0) refl h refl ∙ ap (λ t. (front ++ c ∷ []) ++ t) (take_of_none (cond (c == backslash) 1 0)) ∙ append-nil (front ++ c ∷ []);
}
  where
    take_of_none : (n : ℕ) → ◌≡◌ {A = Text} (take n []) []
    take_of_none zero = refl
    take_of_none (suc n) = refl

firm_pair : (w : ℕ) → IsFirm (backslash ∷ w ∷ [])
firm_pair w = by_space (is_list_space w) refl
  where
    by_space : (b : Bool) → is_list_space w ≡ b → IsFirm (backslash ∷ w ∷ [])
    by_space true h = record {
      full = refl;
      same = λ front. ap trimmed_end (sym (append_assoc front (backslash ∷ []) (w ∷ []))) ∙ trimmed_at front (w ∷ []) backslash 1 (ap (λ b. b && true) h) refl refl ∙ append_assoc front (backslash ∷ []) (w ∷ []);
    }
    by_space false h = firm_front backslash (w ∷ []) (firm_char w h)

-- ---- a text that begins with no list space

record IsSolid (t : Text) : Type 0 where
  first : ℕ
  after : Text
  joined : t ≡ first ∷ after
  solid : is_list_space first ≡ false

solid_append : (t u : Text) → IsSolid t → IsSolid (t ++ u)
solid_append t u s = record { first = s.first; after = s.after ++ u; joined = ap (λ x. x ++ u) s.joined; solid = s.solid }

skips_none : (t : Text) → IsSolid t → skip_space t ≡ t
skips_none t s = ap skip_space s.joined ∙ ap (λ b. cond b (skip_space s.after) (s.first ∷ s.after)) s.solid ∙ sym s.joined

record IsTight (t : Text) : Type 0 where
  firm : IsFirm t
  solid : IsSolid t

-- ---- each form of an element

not_space : (c : ℕ) → not (is_list_space c || is_special c) ≡ true → is_list_space c ≡ false
not_space c h = by_parts (is_list_space c) (is_special c) h
  where
    by_parts : (a b : Bool) → not (a || b) ≡ true → a ≡ false
    by_parts true b k = absurd (false≢true k)
    by_parts false b k = refl

bare_firm : (c : ℕ) (cs : Text) → needs_no_backslash (c ∷ cs) ≡ true → IsFirm (c ∷ cs)
bare_firm c [] h = firm_char c (not_space c (and_parts _ _ h).0)
bare_firm c (d ∷ cs) h = firm_front c (d ∷ cs) (bare_firm d cs (and_parts _ _ h).1)

bare_tight : (c : ℕ) (cs : Text) → needs_no_backslash (c ∷ cs) ≡ true → IsTight (c ∷ cs)
bare_tight c cs h = record { firm = bare_firm c cs h; solid = record { first = c; after = cs; joined = refl; solid = not_space c (and_parts _ _ h).0 } }

braces_tight : (cs : Text) → IsTight (open_brace ∷ (cs ++ close_brace ∷ []))
braces_tight cs = record {
  firm = firm_front open_brace (cs ++ close_brace ∷ []) (firm_append cs (close_brace ∷ []) (firm_char close_brace refl));
  solid = record { first = open_brace; after = cs ++ close_brace ∷ []; joined = refl; solid = refl };
}

escaped_last : (c : ℕ) (o : Option ℕ) → behind_backslash c ≡ o → IsFirm (backslashed c o ++ [])
escaped_last c None e = firm_char c (bare_alone c e).solid
escaped_last c (Some b) e = firm_pair b

escaped_firm : (c : ℕ) (cs : Text) → IsFirm (all_escaped (c ∷ cs))
escaped_firm c [] = escaped_last c (behind_backslash c) refl
escaped_firm c (d ∷ cs) = firm_append (backslashed c (behind_backslash c)) (all_escaped (d ∷ cs)) (escaped_firm d cs)

escaped_begins : (c : ℕ) (cs : Text) (o : Option ℕ) → behind_backslash c ≡ o → IsSolid (backslashed c o ++ cs)
escaped_begins c cs None e = record { first = c; after = cs; joined = refl; solid = (bare_alone c e).solid }
escaped_begins c cs (Some b) e = record { first = backslash; after = b ∷ cs; joined = refl; solid = refl }

escaped_tight : (c : ℕ) (cs : Text) → IsTight (all_escaped (c ∷ cs))
escaped_tight c cs = record { firm = escaped_firm c cs; solid = escaped_begins c (all_escaped cs) (behind_backslash c) refl }

comment_tight : (c : ℕ) (cs : Text) → IsTight (backslash ∷ all_escaped (c ∷ cs))
comment_tight c cs = record {
  firm = firm_front backslash (all_escaped (c ∷ cs)) (escaped_firm c cs);
  solid = record { first = backslash; after = all_escaped (c ∷ cs); joined = refl; solid = refl };
}

form_tight : (first : Bool) (e : Text) → IsTight (spelled (element_form first e) first e)
form_tight first [] = braces_tight []
form_tight first (c ∷ cs) =
    cond_both (needs_no_backslash (c ∷ cs) && not (is_comment first (c ∷ cs))) _ _ (λ f. IsTight (spelled f first (c ∷ cs))) (λ h. bare_tight c cs (and_parts _ _ h).0)
    (λ _. cond_both (is_balanced (c ∷ cs) && not (is_continued (c ∷ cs))) _ _ (λ f. IsTight (spelled f first (c ∷ cs))) (λ _. braces_tight (c ∷ cs))
    (λ _. cond_both (is_comment first (c ∷ cs)) _ _ IsTight (λ _. comment_tight c cs) (λ _. escaped_tight c cs)))

element_tight : (first : Bool) (e : Text) → IsTight (written_element first e)
unfolding written_element
element_tight first e = form_tight first e

-- ---- lists

behind_firm : (t : Text) (es : List Text) → IsFirm t → IsFirm (t ++ written_behind es)
unfolding appended
behind_firm t [] f = subst IsFirm (sym (append-nil t)) f
behind_firm t (e ∷ es) f =
    firm_append t (space ∷ (written_element false e ++ written_behind es)) (firm_front space (written_element false e ++ written_behind es) (behind_firm (written_element false e) es (element_tight false e).firm))

written_tight : (e : Text) (es : List Text) → IsTight (written (e ∷ es))
unfolding appended
written_tight e es = record {
  firm = behind_firm (written_element true e) es (element_tight true e).firm;
  solid = solid_append (written_element true e) (written_behind es) (element_tight true e).solid;
}

written_whole : (es : List Text) → trimmed (written es) ≡ written es
unfolding trimmed_end
written_whole [] = refl
written_whole (e ∷ es) = let w = written_tight e es in ap trimmed_end (skips_none (written (e ∷ es)) w.solid) ∙ w.firm.same []

-- ---- one list behind another

cond_same : {A : Type 0} (n b d : Bool) (x y : A) → b ≡ d → cond (n && not b) x y ≡ cond (n && not d) x y
cond_same n b d x y h = ap (λ e. cond (n && not e) x y) h

form_same : (e : Text) → begins number_sign e ≡ false → element_form true e ≡ element_form false e
form_same [] h = refl
form_same (c ∷ cs) h = cond_same (needs_no_backslash (c ∷ cs)) (is_comment true (c ∷ cs)) false _ _ h

spelled_same : (e : Text) → begins number_sign e ≡ false → spelled (element_form true e) true e ≡ spelled (element_form true e) false e
spelled_same [] h = refl
spelled_same (c ∷ cs) h =
    cond_both (needs_no_backslash (c ∷ cs) && not (is_comment true (c ∷ cs))) _ _ (λ f. spelled f true (c ∷ cs) ≡ spelled f false (c ∷ cs)) (λ _. refl)
    (λ _. cond_both (is_balanced (c ∷ cs) && not (is_continued (c ∷ cs))) _ _ (λ f. spelled f true (c ∷ cs) ≡ spelled f false (c ∷ cs)) (λ _. refl)
    (λ _. ap (λ b. cond b (backslash ∷ all_escaped (c ∷ cs)) (all_escaped (c ∷ cs))) h))

element_same : (e : Text) → begins number_sign e ≡ false → written_element true e ≡ written_element false e
unfolding written_element
element_same e h = spelled_same e h ∙ ap (λ f. spelled f false e) (form_same e h)

behind_append : (es fs : List Text) → written_behind (es ++ fs) ≡ written_behind es ++ written_behind fs
behind_append [] fs = refl
behind_append (e ∷ es) fs = ap (λ t. appended false e ++ t) (behind_append es fs) ∙ sym (append_assoc (appended false e) (written_behind es) (written_behind fs))

-- a list behind a space, as it stands behind other elements
space_behind : (e : Text) (es : List Text) → begins number_sign e ≡ false → space ∷ written (e ∷ es) ≡ written_behind (e ∷ es)
unfolding appended
space_behind e es h = ap (λ t. space ∷ (t ++ written_behind es)) (element_same e h)

joined_written : (es fs : List Text) → begins_sign fs ≡ false → with_word (written es) (written fs) ≡ written (es ++ fs)
joined_written es [] h = ap written (sym (append-nil es))
joined_written [] (f ∷ fs) h = sym (stands_first [] (written (f ∷ fs)) (written_tight f fs).firm.full refl)
joined_written (e ∷ es) (f ∷ fs) h =
    sym (stands_behind (written (e ∷ es)) (written (f ∷ fs)) (written_tight f fs).firm.full (written_tight e es).firm.full) ∙ append_assoc (written (e ∷ es)) (space ∷ []) (written (f ∷ fs))
    ∙ ap (λ t. written (e ∷ es) ++ t) (space_behind f fs h) ∙ append_assoc (appended true e) (written_behind es) (written_behind (f ∷ fs)) ∙ ap (λ t. appended true e ++ t) (sym (behind_append es (f ∷ fs)))

same_there : (ws : List Text) (i : ℕ) (d : Text) → i < length ws → get_or ws i d ≡ word ws i
same_there [] i d h = absurd (omega arith)
same_there (w ∷ ws) zero d h = refl
same_there (w ∷ ws) (suc i) d h = same_there ws i d (omega (arith, h))

-- one word more that is how a list is written
pub chained : (ws : List Text) (i n : ℕ) (w : Text) (old more new : List Text) → i < length ws → w ≡ get_or ws i w → w ≡ written more → false ≡ begins_sign more → n ≡ length more → written old ≡ concat (take i ws)
    → new ≡ old ++ take n more → written new ≡ concat (take (i + 1) ws)
chained ws i n w old more new h is said plain all so_far e =
    let whole : trimmed w ≡ written more = ap trimmed said ∙ written_whole more in
    let gathered : new ≡ old ++ more = e ∙ ap (λ k. old ++ take k more) all ∙ ap (λ es. old ++ es) (take-length more) in
    ap written gathered ∙ sym (ap (with_word (written old)) whole ∙ joined_written old more (sym plain))
    ∙ concat_step ws i w (trimmed w) (written old) (with_word (written old) (trimmed w)) h (is ∙ same_there ws i w h) refl so_far refl
