-- Each reading of a part goes forward.
use Rattle.std.proofs.Common.{◌≡◌, ℕ, suc, ◌<◌, ◌≤◌, ◌==◌, false, List, [], ◌∷◌, length, drop, Option, Some, None, Result, Ok, Err, IfOk, sym, ap, ◌∙◌, refl, arith, rules, length-drop, length-append}
use Rattle.std.specs.Prelude.{IsSome}
use Rattle.std.proofs.lemmas.Bool.{cond_both, false≢true}
use Rattle.tcl_chars.specs.Characters.{backslash, open_brace, quote}
use Rattle.tcl_chars.specs.Classes.{is_list_space}
use Rattle.tcl_chars.specs.Escape.{escape, escape_of, by_control, by_code_form, octal_or_self, control_of, code_form, longest_run}
use Rattle.tcl_chars.specs.Place.{before, tail}
use Rattle.tcl_chars.specs.Reading.{◌>>=◌, all_turns}
use Rattle.tcl_chars.specs.Whole.{skip_space}
use Rattle.tcl_chars.proofs.Turns.{Turned, Shrinks, turns_le, turns_lt}
use Rattle.tcl_list.specs.Braces.{to_close}
use Rattle.tcl_list.specs.Elements.{ends, letter, letters, followed, unquoted, quoted, unbraced, braced, element, first_element, next_element}
use Rattle.tcl_list.specs.declared.reading.Closed.{Closed}
use Rattle.tcl_list.specs.declared.reading.Closed.TheVariants as closed
use Rattle.tcl_list.specs.declared.reading.End.{End}
use Rattle.tcl_list.specs.declared.reading.End.TheVariants.{Space, Quote}
use Rattle.tcl_list.proofs.BraceEnds.{close_ends}

-- ---- an escape takes a character at least

octal_some : (c : ℕ) (cs : List ℕ) → 1 ≤ (octal_or_self c cs).1
octal_some c cs = cond_both (longest_run 8 255 (c ∷ cs) 3 == 0) _ _ (λ (r : ℕ × ℕ). 1 ≤ r.1) (λ _. omega arith) (λ _. omega arith)

code_some : (c : ℕ) (cs : List ℕ) (f : Option (ℕ × ℕ)) → 1 ≤ (by_code_form c cs f).1
code_some c cs (Some f) = omega arith
code_some c cs None = cond_both (c == 10) _ _ (λ (r : ℕ × ℕ). 1 ≤ r.1) (λ _. omega arith) (λ _. octal_some c cs)

control_some : (c : ℕ) (cs : List ℕ) (x : Option ℕ) → 1 ≤ (by_control c cs x).1
control_some c cs (Some x) = omega arith
control_some c cs None = code_some c cs (code_form c)

pub escape_some : (c : ℕ) (cs : List ℕ) → 1 ≤ (escape (c ∷ cs)).1
unfolding escape_of
escape_some c [] = omega arith
escape_some c (d ∷ ds) = control_some d ds (control_of d)

pub escape_shrinks : (c : ℕ) (cs : List ℕ) → length (drop (escape (c ∷ cs)).1 (c ∷ cs)) ≤ length cs
escape_shrinks c cs = omega (arith, length-drop (escape (c ∷ cs)).1 (c ∷ cs), escape_some c cs)

-- ---- letters

abbrev AfterLetter : ℕ → Result (Option ℕ × List ℕ) (List ℕ) → Type 0
AfterLetter n r = IfOk r (λ t. Turned n t.0 t.1)

letter_each : (end : End) (cs : List ℕ) → AfterLetter (length cs) (letter end cs)
letter_each end [] = omega arith
letter_each end (c ∷ cs) =
    cond_both (ends end c) _ _ (AfterLetter (length (c ∷ cs))) (λ _. omega arith)
    (λ _. cond_both (c == backslash) _ _ (AfterLetter (length (c ∷ cs))) (λ _. omega (arith, escape_shrinks c cs)) (λ _. omega arith))

pub letter_shrinks : (end : End) → Shrinks (letter end)
letter_shrinks end = record { each = letter_each end }

-- ---- elements

-- what is left is no longer than n
abbrev Within : {A : Type 0} → ℕ → Result (A × List ℕ) (List ℕ) → Type 0
Within n r = IfOk r (λ x. length x.1 ≤ n)

below : {A : Type 0} (n : ℕ) (r : Result (A × List ℕ) (List ℕ)) → IfOk r (λ x. length x.1 < suc n) → Within n r
below n (Ok x) h = omega arith
below n (Err e) h = tt

within_after : {A B : Type 0} (n m : ℕ) (r : Result (A × List ℕ) (List ℕ)) (next : A × List ℕ → Result (B × List ℕ) (List ℕ)) → Within m r
    → ((x : A × List ℕ) → length x.1 ≤ m → Within n (next x)) → Within n (r >>= next)
within_after n m (Ok x) next h k = k x h
within_after n m (Err e) next h k = tt

letters_within : (end : End) (cs : List ℕ) → Within (length cs) (letters end cs)
unfolding letters
letters_within end cs = turns_le (letter end) cs (letter_shrinks end)

followed_within : (close : Closed) (e cs : List ℕ) (n : ℕ) → length cs ≤ n → Within n (followed close e cs)
followed_within close e [] n h = omega arith
followed_within close e (c ∷ cs) n h = cond_both (is_list_space c) _ _ (Within n) (λ _. h) (λ _. tt)

unquoted_within : (e cs : List ℕ) (n : ℕ) → length cs ≤ n → Within n (unquoted e cs)
unquoted_within e [] n h = tt
unquoted_within e (q ∷ cs) n h = followed_within closed.Quote e cs n (omega arith)

quoted_within : (cs : List ℕ) → Within (length cs) (quoted cs)
unfolding quoted
quoted_within cs = within_after (length cs) (length cs) (letters Quote cs) (λ x. unquoted x.0 x.1) (letters_within Quote cs) (λ x h. unquoted_within x.0 x.1 (length cs) h)

tail_le : (cs : List ℕ) → length (tail cs) ≤ length cs
tail_le [] = omega arith
tail_le (c ∷ cs) = omega arith

unbraced_within : (cs : List ℕ) (o : Option (List ℕ)) → to_close false 0 cs ≡ o → Within (length cs) (unbraced cs o)
unbraced_within cs None h = tt
unbraced_within cs (Some rest) h =
    let e = close_ends false 0 cs rest h in
    followed_within closed.Brace (before cs rest) (tail rest) (length cs) (omega (arith, tail_le rest, ap length e.joined, length-append e.front rest))

braced_within : (cs : List ℕ) → Within (length cs) (braced cs)
unfolding braced
braced_within cs = unbraced_within cs (to_close false 0 cs) refl

abbrev IsMore : Result (Option ℕ × List ℕ) (List ℕ) → Type 0
IsMore r = IfOk r (λ t. IsSome t.0)

bare_more : (c : ℕ) (cs : List ℕ) → is_list_space c ≡ false → IsMore (letter Space (c ∷ cs))
bare_more c cs s =
    cond_both (is_list_space c) _ _ IsMore (λ t. absurd (false≢true (sym s ∙ t))) (λ _. cond_both (c == backslash) _ _ IsMore (λ _. search rules) (λ _. search rules))

bare_within : (c : ℕ) (cs : List ℕ) → is_list_space c ≡ false → Within (length cs) (letters Space (c ∷ cs))
unfolding letters
bare_within c cs s = below (length cs) (all_turns (letter Space) (c ∷ cs)) (turns_lt (letter Space) (c ∷ cs) (letter_shrinks Space) (bare_more c cs s))

pub element_within : (c : ℕ) (cs : List ℕ) → is_list_space c ≡ false → Within (length cs) (element c cs)
element_within c cs s =
    cond_both (c == open_brace) _ _ (Within (length cs)) (λ _. braced_within cs) (λ _. cond_both (c == quote) _ _ (Within (length cs)) (λ _. quoted_within cs) (λ _. bare_within c cs s))

skip_le : (cs : List ℕ) → length (skip_space cs) ≤ length cs
skip_le [] = omega arith
skip_le (c ∷ cs) = cond_both (is_list_space c) _ _ (λ t. length t ≤ length (c ∷ cs)) (λ _. omega (arith, skip_le cs)) (λ _. omega arith)

same_head : (c d : ℕ) (cs ds : List ℕ) → c ∷ cs ≡ d ∷ ds → c ≡ d
same_head c d cs ds e = cc

pub skipped : (cs ds : List ℕ) (c : ℕ) → skip_space cs ≡ c ∷ ds → is_list_space c ≡ false
skipped [] ds c e = absurd cc
skipped (d ∷ cs) ds c e =
    cond_both (is_list_space d) _ _ (λ t. t ≡ c ∷ ds → is_list_space c ≡ false) (λ _ h. skipped cs ds c h) (λ s h. ap is_list_space (sym (same_head d c cs ds h)) ∙ s) e

abbrev AfterElement : ℕ → Result (Option (List ℕ) × List ℕ) (List ℕ) → Type 0
AfterElement n r = IfOk r (λ t. Turned n t.0 t.1)

found_less : (n m : ℕ) (r : Result (List ℕ × List ℕ) (List ℕ)) → Within m r → m < n → AfterElement n (r >>= λ x. Ok (Some x.0, x.1))
found_less n m (Ok x) h l = omega arith
found_less n m (Err e) h l = tt

in_each : (n : ℕ) (start : List ℕ) → length start ≤ n → ((c : ℕ) (cs : List ℕ) → start ≡ c ∷ cs → is_list_space c ≡ false) → AfterElement n (first_element start)
in_each n [] h k = omega arith
in_each n (c ∷ cs) h k = found_less n (length cs) (element c cs) (element_within c cs (k c cs refl)) (omega arith)

next_each : (cs : List ℕ) → AfterElement (length cs) (next_element cs)
unfolding next_element
next_each cs = in_each (length cs) (skip_space cs) (skip_le cs) (λ c ds e. skipped cs ds c e)

pub next_shrinks : Shrinks next_element
next_shrinks = record { each = next_each }
