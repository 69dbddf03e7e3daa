-- What is scanned before a `]` is scanned so where the text ends there.
use Rattle.std.proofs.Common.{◌≡◌, ℕ, suc, ◌+◌, ◌-◌, ◌<◌, ◌≤◌, Bool, true, false, ◌&&◌, ◌||◌, ◌==◌, List, [], ◌∷◌, ◌++◌, length, take, drop, Result, Ok, Err, refl, ap, ◌∙◌, arith, length-append}
use Rattle.std.specs.Prelude.{IfOk, encode_utf8_all}
use Rattle.std.proofs.lemmas.List.{take-append-le, drop-append-le}
use Rattle.std.proofs.lemmas.Str.{encodes-append}
use Rattle.tcl_chars.specs.Characters.{newline, backslash, semicolon, number_sign, close_bracket, close_brace, open_brace}
use Rattle.tcl_chars.specs.Classes.{is_word_space}
use Rattle.tcl_chars.specs.Escape.{escape, escape_of, by_control, control_of}
use Rattle.tcl_chars.specs.Place.{begins, before, place, bytes}
use Rattle.tcl_words.specs.declared.blanks.Gap.{Gap}
use Rattle.tcl_words.specs.declared.blanks.Gap.TheVariants as gap
use Rattle.tcl_words.specs.declared.fault.Syntax.{Syntax}
use Rattle.tcl_words.specs.Words.{after_gaps, ends_word, at_variable_brace, at_brace, stretch}
use Rattle.tcl_chars.proofs.Ends.{ends_le, if_weak}
use Rattle.tcl_chars.proofs.EscapesLemmas.{escape_before, escape_takes_next}
use Rattle.tcl_words.proofs.BeforeInert.{inert_bracket, begins_before}
use Rattle.tcl_words.proofs.Forward.{gaps_end, variable_brace_end, brace_end}
use Rattle.tcl_words.proofs.Longer.{same_cond}

-- the text with a bracket behind it
abbrev pub closed_by : List ℕ → List ℕ → List ℕ
closed_by t y = t ++ close_bracket ∷ y

abbrev pub behind : List ℕ → ℕ
behind y = suc (length y)

pub length_closed : (t y : List ℕ) → length (closed_by t y) ≡ length t + behind y
length_closed t y = length-append t (close_bracket ∷ y)

pub place_alone : (n : ℕ) (s y : List ℕ) → place (n + bytes (close_bracket ∷ y)) (closed_by s y) ≡ place n s
unfolding place
place_alone n s y =
    let e : bytes (closed_by s y) ≡ bytes s + bytes (close_bracket ∷ y) = ap length (encodes-append s (close_bracket ∷ y)) ∙ length-append (encode_utf8_all s) (encode_utf8_all (close_bracket ∷ y)) in
    rw e (omega arith)

pub before_alone : (a b y : List ℕ) → before (closed_by a y) (closed_by b y) ≡ before a b
before_alone a b y =
    let k : length (closed_by a y) - length (closed_by b y) ≡ length a - length b = omega (arith, length_closed a y, length_closed b y) in
    ap (λ m. take m (closed_by a y)) k ∙ take-append-le (length a - length b) a (close_bracket ∷ y) (omega arith)

pub stretch_alone : (n : ℕ) (a b y : List ℕ) → stretch (n + bytes (close_bracket ∷ y)) (closed_by a y) (closed_by b y) ≡ stretch n a b
stretch_alone n a b y = rw (place_alone n a y, before_alone a b y) refl

-- ---- looks ahead

pub ends_word_alone : (c : ℕ) (t y : List ℕ) (b : Bool) → (b ≡ false → (c == close_bracket) ≡ false) → ends_word true (closed_by (c ∷ t) y) ≡ ends_word b (c ∷ t)
ends_word_alone c t y true h = rw (begins_before newline t 93 y refl) refl
ends_word_alone c t y false h = rw (begins_before newline t 93 y refl, h refl) refl

-- ---- scans

-- what is left still has the bracket and what stands behind it, so the scan ended before
abbrev pub Stays : List ℕ → List ℕ → List ℕ → Type 0
Stays y rest alone = behind y ≤ length rest → rest ≡ closed_by alone y

pub gaps_alone : (g : Gap) (t y : List ℕ) → Stays y (after_gaps g (closed_by t y)) (after_gaps g t)
unfolding after_gaps
gaps_alone gap.Between [] y = λ h. refl
gaps_alone (gap.Comment true) [] y = λ h. absurd (omega (arith, ends_le y _ (gaps_end (gap.Comment false) y)))
gaps_alone (gap.Comment false) [] y = λ h. absurd (omega (arith, ends_le y _ (gaps_end (gap.Comment false) y)))
gaps_alone gap.Between (c ∷ t) y =
    rw (begins_before newline t 93 y refl) (same_cond (Stays y) (is_word_space c || c == newline || c == semicolon || (c == backslash && begins newline t)) _ _ _ _ (gaps_alone gap.Between t y)
    (same_cond (Stays y) (c == number_sign) _ _ _ _ (gaps_alone (gap.Comment false) t y) (λ h. refl)))
gaps_alone (gap.Comment hidden) (c ∷ t) y =
    same_cond (Stays y) hidden _ _ _ _ (gaps_alone (gap.Comment false) t y)
    (same_cond (Stays y) (c == newline) _ _ _ _ (gaps_alone gap.Between t y) (gaps_alone (gap.Comment (c == backslash)) t y))

-- the same of a scan that may fail, and that stops at a character that closes
abbrev pub CutScan : List ℕ → Result (List ℕ) Syntax → Result (List ℕ) Syntax → Type 0
CutScan y (Ok rest) alone = behind y < length rest → (s : List ℕ) × (rest ≡ closed_by s y) × (alone ≡ Ok s)
CutScan y (Err m) alone = Unit {0}

too_far : (y : List ℕ) (r alone : Result (List ℕ) Syntax) → IfOk r (λ x. length x ≤ length y) → CutScan y r alone
too_far y (Ok rest) alone h = λ k. absurd (omega (arith, k, h))
too_far y (Err m) alone h = tt

pub variable_brace_alone : (t y : List ℕ) → CutScan y (at_variable_brace (closed_by t y)) (at_variable_brace t)
unfolding at_variable_brace
variable_brace_alone [] y = too_far y _ _ (if_weak _ (λ x. length x ≤ length y) (at_variable_brace y) (variable_brace_end y) (λ r h. ends_le y r h))
variable_brace_alone (c ∷ t) y = same_cond (CutScan y) (c == close_brace) _ _ _ _ (λ h. (c ∷ t, refl, refl)) (variable_brace_alone t y)

pub brace_alone : (h : Bool) (d : ℕ) (t y : List ℕ) → CutScan y (at_brace h d (closed_by t y)) (at_brace h d t)
unfolding at_brace
brace_alone true d [] y = too_far y _ _ (if_weak _ (λ x. length x ≤ length y) (at_brace false d y) (brace_end false d y) (λ r h. ends_le y r h))
brace_alone false d [] y = too_far y _ _ (if_weak _ (λ x. length x ≤ length y) (at_brace false d y) (brace_end false d y) (λ r h. ends_le y r h))
brace_alone h d (c ∷ t) y =
    same_cond (CutScan y) h _ _ _ _ (brace_alone false d t y)
    (same_cond (CutScan y) (c == close_brace) _ _ _ _
    (same_cond (CutScan y) (d == 0) _ _ _ _ (λ h. (c ∷ t, refl, refl)) (brace_alone false (d - 1) t y))
    (same_cond (CutScan y) (c == open_brace) _ _ _ _ (brace_alone false (d + 1) t y) (brace_alone (c == backslash) d t y)))

-- ---- escapes

pub escape_alone : (b : ℕ) (t y : List ℕ) → (let here = closed_by (b ∷ t) y in behind y ≤ length (drop (escape here).1 here) → ((escape here).0 ≡ (escape (b ∷ t)).0) × (drop (escape here).1 here ≡ closed_by (drop (escape (b ∷ t)).1 (b ∷ t)) y))
unfolding escape_of
escape_alone b [] y = rw (escape_takes_next b close_bracket y inert_bracket.no_escape refl refl refl) (λ h. absurd (omega (arith, h)))
escape_alone b (c ∷ t) y = λ h.
    let s = escape_before b c t close_bracket y inert_bracket.no_escape in
    let k = (by_control c t (control_of c)).1 in
    (ap (λ p. p.0) s.same, ap (λ (p : ℕ × ℕ). drop p.1 (closed_by (b ∷ c ∷ t) y)) s.same ∙ drop-append-le k (b ∷ c ∷ t) (close_bracket ∷ y) (omega (arith, s.inside)))
