-- A list of two elements or more, or a dictionary of one pair or more, stands in braces as it is where it is an element.
use Rattle.std.proofs.Common.{◌≡◌, ℕ, zero, suc, ◌+◌, ◌≤◌, ◌==◌, ◌&&◌, not, Bool, true, false, List, [], ◌∷◌, ◌++◌, length, Option, Some, None, sym, ap, ◌∙◌, subst, refl, arith}
use Rattle.std.specs.Option.{option_map_or}
use Rattle.std.specs.Prelude.{if◌then◌else◌}
use Rattle.std.proofs.lemmas.Bool.{cond-true, cond-false, cond_both, and_parts, and_from, and_left, and_right, or_from, eqb-true, not-true, not_from_false, or_parts, true≢false, false≢true}
use Rattle.std.proofs.lemmas.Bool.Decides.{nat_tests}
use Rattle.tcl_chars.specs.Characters.{backslash, newline, space, open_brace, close_brace, number_sign}
use Rattle.tcl_chars.specs.Place.{begins}
use Rattle.tcl_list.specs.Braces.{mark_of, hides, counted, balances, is_balanced}
use Rattle.tcl_list.specs.Written.{is_special, needs_no_backslash, is_continued, is_comment, element_form, behind_backslash, backslashed, all_escaped, spelled, written_element, appended, written_behind, written}
use Rattle.tcl_list.proofs.Escapes.{bare_alone}
use Rattle.tcl_list.proofs.Joining.{appended_first, appended_other}
use Rattle.tcl_pages.specs.Dictionaries.{Pairs}
use Rattle.tcl_pages.specs.DictPages.{flat, dictionary}

-- Its braces match, and no backslash stands before a newline: what a text needs to stand in braces as it is.
record Stands (cs : List ℕ) : Type 0 where
  matched : is_balanced cs ≡ true
  unbroken : is_continued cs ≡ false

-- ---- texts one behind another

-- The marks have no names outside their crate: a fact of each of four is one of the mark that three tests choose.
by_mark : {A : Type 0} (a b c : Bool) (p q r s : A) (P : A → Type 0) → P p → P q → P r → P s → P (if a then p else (if b then q else (if c then r else s)))
by_mark a b c p q r s P x y z w = cond_both a _ _ P (λ _. x) (λ _. cond_both b _ _ P (λ _. y) (λ _. cond_both c _ _ P (λ _. z) (λ _. w)))

-- what is left of a count and of one that is k higher, behind a brace that closes
closed : (d n k : ℕ) (f g : ℕ → Bool) (b : Bool) → n ≡ d + k → ((x y : ℕ) → y ≡ x + k → f x ≡ true → g y ≡ b) → option_map_or f (counted (mark_of false close_brace) d) false ≡ true → option_map_or g (counted (mark_of false close_brace) n) false ≡ b
closed zero n k f g b e later h = absurd (false≢true h)
closed (suc d) zero k f g b e later h = absurd (omega arith)
closed (suc d) (suc n) k f g b e later h = later d n (omega arith) h

-- Where the count of a text ends, that of what follows it goes on.
abbrev GoesOn : ℕ → List ℕ → List ℕ → Type 0
GoesOn k cs rest = (hidden : Bool) (d n : ℕ) → n ≡ d + k → balances hidden d cs ≡ true → balances hidden n (cs ++ rest) ≡ balances false k rest

char_goes_on : (k c : ℕ) (cs rest : List ℕ) → GoesOn k cs rest → GoesOn k (c ∷ cs) rest
char_goes_on k c cs rest later true d n e h = later false d n e h
char_goes_on k c cs rest later false d n e h =
    by_mark (c == backslash) (c == open_brace) (c == close_brace) _ _ _ _
    (λ m. option_map_or (λ x. balances (hides m) x cs) (counted m d) false ≡ true → option_map_or (λ x. balances (hides m) x (cs ++ rest)) (counted m n) false ≡ balances false k rest)
    (later true d n e) (later false (suc d) (suc n) (omega arith)) (closed d n k _ _ _ e (later false)) (later false d n e) h

goes_on : (k : ℕ) (cs rest : List ℕ) → GoesOn k cs rest
goes_on k [] rest true d n e h = absurd (false≢true h)
goes_on k [] rest false d n e h = ap (λ x. balances false x rest) (omega (arith, eqb-true d 0 h))
goes_on k (c ∷ cs) rest hidden d n e h = char_goes_on k c cs rest (goes_on k cs rest) hidden d n e h

-- no backslash stands before a newline where two texts meet
no_break : (xs ys : List ℕ) → is_continued xs ≡ false → is_continued ys ≡ false → begins newline ys ≡ false → is_continued (xs ++ ys) ≡ false
no_break [] ys h k b = k
no_break (c ∷ []) ys h k b = or_from _ _ (and_right (c == backslash) _ b) k
no_break (c ∷ d ∷ xs) ys h k b = let p = or_parts _ _ h in or_from _ _ p.0 (no_break (d ∷ xs) ys p.1 k b)

joined : (xs ys : List ℕ) → Stands xs → Stands ys → begins newline ys ≡ false → Stands (xs ++ ys)
joined xs ys s t b = record {
  matched = goes_on 0 xs ys false 0 0 (omega arith) s.matched ∙ t.matched;
  unbroken = no_break xs ys s.unbroken t.unbroken b;
}

-- the empty text
nothing : Stands []
nothing = record { matched = refl; unbroken = refl }

-- ---- a character in front

not_backslash : (c : ℕ) → is_special c ≡ false → (c == backslash) ≡ false
not_backslash c s = grind (arith, nat_tests)

plain_mark : (c : ℕ) → is_special c ≡ false → mark_of false c ≡ mark_of true c
plain_mark c s = grind (arith, nat_tests)

bare_in_front : (c : ℕ) (cs : List ℕ) → is_special c ≡ false → Stands cs → Stands (c ∷ cs)
bare_in_front c cs s t = record {
  matched = ap (λ m. option_map_or (λ n. balances (hides m) n cs) (counted m 0) false) (plain_mark c s) ∙ t.matched;
  unbroken = or_from _ _ (and_left _ (begins newline cs) (not_backslash c s)) t.unbroken;
}

escaped_in_front : (c : ℕ) (cs : List ℕ) → (c == newline) ≡ false → begins newline cs ≡ false → Stands cs → Stands (backslash ∷ c ∷ cs)
escaped_in_front c cs n b t = record { matched = t.matched; unbroken = or_from _ _ n (or_from _ _ (and_right (c == backslash) _ b) t.unbroken) }

-- ---- an element that is bare, or in braces

bare_stands : (cs : List ℕ) → needs_no_backslash cs ≡ true → Stands cs
bare_stands [] h = nothing
bare_stands (c ∷ cs) h =
    let p = and_parts _ _ h in
    bare_in_front c cs (or_parts _ _ (not-true _ p.0)).1 (bare_stands cs p.1)

braces_stand : (cs : List ℕ) → Stands cs → Stands (open_brace ∷ (cs ++ close_brace ∷ []))
braces_stand cs s = record {
  matched = goes_on 1 cs (close_brace ∷ []) false 0 1 (omega arith) s.matched;
  unbroken = no_break cs (close_brace ∷ []) s.unbroken refl refl;
}

-- ---- an element with backslashes

-- what stands behind a backslash is no newline
abbrev NoNewline : Option ℕ → Type 0
NoNewline None = Unit {0}
NoNewline (Some b) = (b == newline) ≡ false

no_newline : (c : ℕ) → NoNewline (behind_backslash c)
no_newline c =
    cond_both (c == 9) _ _ NoNewline (λ _. refl)
    (λ _. cond_both (c == newline) _ _ NoNewline (λ _. refl)
    (λ _. cond_both (c == 11) _ _ NoNewline (λ _. refl)
    (λ _. cond_both (c == 12) _ _ NoNewline (λ _. refl)
    (λ _. cond_both (c == 13) _ _ NoNewline (λ _. refl)
    (λ _. cond_both (c == space) _ _ NoNewline (λ _. refl)
    (λ _. cond_both (is_special c) _ _ NoNewline (λ s. grind (arith, nat_tests)) (λ _. tt)))))))

-- what is escaped doesn't begin with a newline
char_begins : (c : ℕ) (cs : List ℕ) (o : Option ℕ) → behind_backslash c ≡ o → begins newline (backslashed c o ++ cs) ≡ false
char_begins c cs None e = (or_parts _ _ (bare_alone c e).solid).1
char_begins c cs (Some b) e = refl

escaped_begins : (cs : List ℕ) → begins newline (all_escaped cs) ≡ false
escaped_begins [] = refl
escaped_begins (c ∷ cs) = char_begins c (all_escaped cs) (behind_backslash c) refl

char_stands : (c : ℕ) (cs : List ℕ) (o : Option ℕ) → behind_backslash c ≡ o → NoNewline o → begins newline cs ≡ false → Stands cs → Stands (backslashed c o ++ cs)
char_stands c cs None e n b s = bare_in_front c cs (bare_alone c e).special s
char_stands c cs (Some x) e n b s = escaped_in_front x cs n b s

escaped_stands : (cs : List ℕ) → Stands (all_escaped cs)
escaped_stands [] = nothing
escaped_stands (c ∷ cs) = char_stands c (all_escaped cs) (behind_backslash c) refl (no_newline c) (escaped_begins cs) (escaped_stands cs)

comment_stands : (c : ℕ) (cs : List ℕ) → c ≡ number_sign → Stands (backslash ∷ all_escaped (c ∷ cs))
comment_stands c cs e = subst (λ x. Stands (backslash ∷ all_escaped (x ∷ cs))) (sym e) (escaped_in_front number_sign (all_escaped cs) refl (escaped_begins cs) (escaped_stands cs))

backslashes_stand : (first : Bool) (c : ℕ) (cs : List ℕ) → Stands (if is_comment first (c ∷ cs) then backslash ∷ all_escaped (c ∷ cs) else all_escaped (c ∷ cs))
backslashes_stand first c cs =
    cond_both (is_comment first (c ∷ cs)) _ _ Stands (λ h. comment_stands c cs (eqb-true c number_sign (and_parts _ _ h).1)) (λ _. escaped_stands (c ∷ cs))

-- ---- elements and lists

form_stands : (first : Bool) (e : List ℕ) → Stands (spelled (element_form first e) first e)
form_stands first [] = record { matched = refl; unbroken = refl }
form_stands first (c ∷ cs) =
    cond_both (needs_no_backslash (c ∷ cs) && not (is_comment first (c ∷ cs))) _ _ (λ f. Stands (spelled f first (c ∷ cs)))
    (λ h. bare_stands (c ∷ cs) (and_parts _ _ h).0)
    (λ _. cond_both (is_balanced (c ∷ cs) && not (is_continued (c ∷ cs))) _ _ (λ f. Stands (spelled f first (c ∷ cs)))
    (λ h. let p = and_parts _ _ h in braces_stand (c ∷ cs) (record { matched = p.0; unbroken = not-true _ p.1 })) (λ _. backslashes_stand first c cs))

element_stands : (first : Bool) (e : List ℕ) → Stands (written_element first e)
unfolding written_element
element_stands first e = form_stands first e

behind_begins : (es : List (List ℕ)) → begins newline (written_behind es) ≡ false
unfolding appended
behind_begins [] = refl
behind_begins (e ∷ es) = refl

behind_stands : (es : List (List ℕ)) → Stands (written_behind es)
unfolding appended
behind_stands [] = nothing
behind_stands (e ∷ es) = bare_in_front space _ refl (joined (written_element false e) (written_behind es) (element_stands false e) (behind_stands es) (behind_begins es))

list_stands : (es : List (List ℕ)) → Stands (written es)
unfolding appended
list_stands [] = nothing
list_stands (e ∷ es) = joined (written_element true e) (written_behind es) (element_stands true e) (behind_stands es) (behind_begins es)

-- ---- a list as an element

-- a space needs a backslash, and one stands between the first two elements
with_space : (xs ys : List ℕ) → needs_no_backslash (xs ++ space ∷ ys) ≡ false
with_space [] ys = refl
with_space (c ∷ xs) ys = and_right _ _ (with_space xs ys)

list_has_space : (es : List (List ℕ)) → 2 ≤ length es → needs_no_backslash (written es) ≡ false
unfolding appended
list_has_space [] h = absurd (omega arith)
list_has_space (e ∷ []) h = absurd (omega arith)
list_has_space (e ∷ f ∷ es) h = with_space (written_element true e) (written_element false f ++ written_behind es)

-- a text that stands as it is, and can't be bare, is put in braces
in_braces : (first : Bool) (cs : List ℕ) → needs_no_backslash cs ≡ false → Stands cs → spelled (element_form first cs) first cs ≡ open_brace ∷ (cs ++ close_brace ∷ [])
in_braces first [] n s = absurd (true≢false n)
in_braces first (c ∷ cs) n s =
    ap (λ f. spelled f first (c ∷ cs)) (cond-false _ _ _ (and_left _ _ n) ∙ cond-true _ _ _ (and_from _ _ s.matched (not_from_false _ s.unbroken)))

-- A written list of two elements or more stands in braces as it is, wherever it comes in another list.
pub stands_in_braces : (first : Bool) (es : List (List ℕ)) → 2 ≤ length es → appended first (written es) ≡ (if first then [] else space ∷ []) ++ open_brace ∷ (written es ++ close_brace ∷ [])
stands_in_braces true es h = appended_first true _ (written es) refl refl ∙ in_braces true (written es) (list_has_space es h) (list_stands es)
stands_in_braces false es h = appended_other false _ (written es) refl refl ∙ ap (λ t. space ∷ t) (in_braces false (written es) (list_has_space es h) (list_stands es))

-- A written dictionary of one pair or more does so too.
pub dictionary_in_braces : (first : Bool) (ps : Pairs) → 1 ≤ length ps → appended first (dictionary ps) ≡ (if first then [] else space ∷ []) ++ open_brace ∷ (dictionary ps ++ close_brace ∷ [])
dictionary_in_braces first [] h = absurd (omega arith)
dictionary_in_braces first (p ∷ ps) h = stands_in_braces first (p.0 ∷ p.1 ∷ flat ps) (omega arith)
