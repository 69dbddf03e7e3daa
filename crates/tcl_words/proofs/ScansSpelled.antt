-- Scans leave what the relations say: blanks, separators and comments, plain characters, names, braces.
use Rattle.std.proofs.Common.{◌≡◌, ℕ, zero, suc, ◌+◌, ◌-◌, ◌≤◌, Bool, true, false, cond, not, ◌&&◌, ◌||◌, ◌==◌, List, [], ◌∷◌, ◌++◌, length, take, drop, Ok, refl, sym, ap, subst, ◌∙◌, arith, inl, inr, append_assoc, length-append}
use Rattle.std.specs.Prelude.{IfOk}
use Rattle.std.proofs.Math.Seq.{drop-append_seam}
use Rattle.std.proofs.lemmas.Bool.{cases_Bool, and_parts, or_right, eqb-true, eqb-false, ne_eqb, true≢false, cases_lt}
use Rattle.std.proofs.lemmas.List.{take_at}
use Rattle.tcl_chars.specs.Characters.{newline, backslash, semicolon, number_sign, colon, open_bracket, close_bracket, open_brace, close_brace, dollar}
use Rattle.tcl_chars.specs.Classes.{is_word_space, is_name_char}
use Rattle.tcl_chars.specs.Place.{begins}
use Rattle.tcl_words.specs.declared.blanks.Gap.{Gap}
use Rattle.tcl_words.specs.declared.blanks.Gap.TheVariants as gap
use Rattle.tcl_words.specs.declared.front.Kind.TheVariants as kind
use Rattle.tcl_words.specs.declared.front.Mode.{Mode}
use Rattle.tcl_words.specs.Spelling.{Blanks, Comment, Separators, CommandEnd, ends_script, ends_word, is_name, IsLongestName, begins_name, begins_variable, stands_for_itself, PlainRun, lacks, Balanced, UpToHidden}
use Rattle.tcl_words.specs.Words.{after_blanks, after_gaps, after_name, after_plain, after_verbatim, after_command, at_variable_brace, at_brace, kind_of, is_plain, ends_pieces}
use Rattle.tcl_chars.proofs.Ends.{if_weak}
use Rattle.tcl_words.proofs.Names.{name_longest}

-- two characters that are tested for
pub two_are : (P : ℕ → ℕ → Type 0) (c d x y : ℕ) → (c == x && d == y) ≡ true → P x y → P c d
two_are P c d x y h p =
    let both = and_parts (c == x) (d == y) h in
    subst (λ u. P u d) (sym (eqb-true c x both.0)) (subst (λ v. P x v) (sym (eqb-true d y both.1)) p)

pub one_is : (P : ℕ → Type 0) (c x : ℕ) → (c == x) ≡ true → P x → P c
one_is P c x h p = subst P (sym (eqb-true c x h)) p

-- ---- blanks

pub blanks_spelled : (cs : List ℕ) → Blanks cs (after_blanks cs)
unfolding after_blanks
blanks_spelled [] = Blanks.none []
blanks_spelled (c ∷ []) = elim (cases_Bool (is_word_space c)) [
  | inl s ↦ rw s (Blanks.white c [] [] s (Blanks.none []))
  | inr s ↦ rw s (Blanks.none (c ∷ []))
]
blanks_spelled (c ∷ d ∷ cs) = elim (cases_Bool (is_word_space c)) [
  | inl s ↦ rw s (Blanks.white c (d ∷ cs) (after_blanks (d ∷ cs)) s (blanks_spelled (d ∷ cs)))
  | inr s ↦ elim (cases_Bool (c == backslash && d == newline)) [
    | inl h ↦ rw (s, h) (two_are (λ x y. Blanks (x ∷ y ∷ cs) (after_blanks cs)) c d backslash newline h (Blanks.hidden_newline cs (after_blanks cs) (blanks_spelled cs)))
    | inr h ↦ rw (s, h) (Blanks.none (c ∷ d ∷ cs))
  ]
]

one_blank : (c : ℕ) (cs : List ℕ) → is_word_space c ≡ true → after_blanks (c ∷ cs) ≡ after_blanks cs
unfolding after_blanks
one_blank c [] s = rw s refl
one_blank c (d ∷ cs) s = rw s refl

pub blanks_read : (cs rest : List ℕ) → Blanks cs rest → after_blanks rest ≡ rest → after_blanks cs ≡ rest
unfolding after_blanks
blanks_read _ _ (Blanks.none rest) h = h
blanks_read _ _ (Blanks.white c cs rest s b) h = one_blank c cs s ∙ blanks_read cs rest b h
blanks_read _ _ (Blanks.hidden_newline cs rest b) h = blanks_read cs rest b h

-- ---- separators and comments

abbrev pub GapsSpelled : Gap → List ℕ → List ℕ → Type 0
GapsSpelled gap.Between cs rest = Separators cs rest
GapsSpelled (gap.Comment false) cs rest = (after : List ℕ) × Comment cs after × Separators after rest
GapsSpelled (gap.Comment true) cs rest = (after : List ℕ) × Comment (backslash ∷ cs) after × Separators after rest

commented : (cs rest : List ℕ) → GapsSpelled (gap.Comment false) cs rest → Separators (number_sign ∷ cs) rest
commented cs rest (after, k, s) = Separators.comment cs after rest k s

-- a newline goes with the backslash before it
behind_newline : (cs rest : List ℕ) (d : ℕ) → (d == newline) ≡ true → Separators cs rest → Separators (backslash ∷ d ∷ cs) rest
behind_newline cs rest d h s = one_is (λ x. Separators (backslash ∷ x ∷ cs) rest) d newline h (Separators.hidden_newline cs rest s)

or_cases : (a b : Bool) → (a || b) ≡ true → a ≡ false → b ≡ true
or_cases true b e f = absurd (true≢false f)
or_cases false b e f = e

newline_passed : (d : ℕ) (cs : List ℕ) → (d == newline) ≡ true → after_gaps gap.Between (d ∷ cs) ≡ after_gaps gap.Between cs
unfolding after_gaps
newline_passed d cs h = one_is (λ x. after_gaps gap.Between (x ∷ cs) ≡ after_gaps gap.Between cs) d newline h refl

pub gaps_spelled : (g : Gap) (cs : List ℕ) → GapsSpelled g cs (after_gaps g cs)
unfolding after_gaps
gaps_spelled gap.Between [] = Separators.none []
gaps_spelled (gap.Comment true) [] = ([], Comment.last_backslash, Separators.none [])
gaps_spelled (gap.Comment false) [] = ([], Comment.at_end, Separators.none [])
gaps_spelled gap.Between (c ∷ []) = elim (cases_Bool (is_word_space c || c == newline || c == semicolon)) [
  | inl s ↦ rw s (Separators.separator c [] [] s (Separators.none []))
  | inr s ↦ elim (cases_Bool (c == backslash && false)) [
    | inl h ↦ absurd (true≢false (sym (and_parts (c == backslash) false h).1))
    | inr h ↦ elim (cases_Bool (c == number_sign)) [
      | inl n ↦ rw (s, h, n) (one_is (λ x. Separators (x ∷ []) []) c number_sign n (Separators.comment [] [] [] Comment.at_end (Separators.none [])))
      | inr n ↦ rw (s, h, n) (Separators.none (c ∷ []))
    ]
  ]
]
gaps_spelled gap.Between (c ∷ d ∷ cs) = elim (cases_Bool (is_word_space c || c == newline || c == semicolon)) [
  | inl s ↦ rw s (Separators.separator c (d ∷ cs) (after_gaps gap.Between (d ∷ cs)) s (gaps_spelled gap.Between (d ∷ cs)))
  | inr s ↦ elim (cases_Bool (c == backslash && d == newline)) [
    | inl h ↦ rw (s, h) (
        let both = and_parts (c == backslash) (d == newline) h in
        let at : Separators (backslash ∷ d ∷ cs) (after_gaps gap.Between (d ∷ cs)) = behind_newline cs (after_gaps gap.Between (d ∷ cs)) d both.1 (subst (Separators cs) (sym (newline_passed d cs both.1)) (gaps_spelled gap.Between cs)) in
        one_is (λ x. Separators (x ∷ d ∷ cs) (after_gaps gap.Between (d ∷ cs))) c backslash both.0 at)
    | inr h ↦ elim (cases_Bool (c == number_sign)) [
      | inl n ↦ rw (s, h, n) (one_is (λ x. Separators (x ∷ d ∷ cs) (after_gaps (gap.Comment false) (d ∷ cs))) c number_sign n (commented (d ∷ cs) _ (gaps_spelled (gap.Comment false) (d ∷ cs))))
      | inr n ↦ rw (s, h, n) (Separators.none (c ∷ d ∷ cs))
    ]
  ]
]
gaps_spelled (gap.Comment true) (c ∷ cs) = let (after, k, s) = gaps_spelled (gap.Comment false) cs in (after, Comment.passed c cs after k, s)
gaps_spelled (gap.Comment false) (c ∷ cs) = elim (cases_Bool (c == newline)) [
  | inl n ↦ rw n (one_is (λ x. GapsSpelled (gap.Comment false) (x ∷ cs) (after_gaps gap.Between cs)) c newline n (cs, Comment.at_newline cs, gaps_spelled gap.Between cs))
  | inr n ↦ elim (cases_Bool (c == backslash)) [
    | inl b ↦ rw (n, b) (one_is (λ x. GapsSpelled (gap.Comment false) (x ∷ cs) (after_gaps (gap.Comment true) cs)) c backslash b (gaps_spelled (gap.Comment true) cs))
    | inr b ↦ rw (n, b) (
        let (after, k, s) = gaps_spelled (gap.Comment false) cs in
        (after, Comment.character c cs after (eqb-false c newline n) (eqb-false c backslash b) k, s))
  ]
]

comment_read : (cs after : List ℕ) → Comment cs after → after_gaps (gap.Comment false) cs ≡ after_gaps gap.Between after
unfolding after_gaps
comment_read _ _ (Comment.at_newline rest) = refl
comment_read _ _ Comment.at_end = refl
comment_read _ _ (Comment.character c cs rest n b k) = rw (ne_eqb c newline n, ne_eqb c backslash b) (comment_read cs rest k)
comment_read _ _ (Comment.passed c cs rest k) = comment_read cs rest k
comment_read _ _ Comment.last_backslash = refl

pub separators_read : (cs rest : List ℕ) → Separators cs rest → after_gaps gap.Between rest ≡ rest → after_gaps gap.Between cs ≡ rest
unfolding after_gaps
separators_read _ _ (Separators.none rest) h = h
separators_read _ _ (Separators.separator c cs rest s k) h = rw s (separators_read cs rest k h)
separators_read _ _ (Separators.hidden_newline cs rest k) h = separators_read cs rest k h
separators_read _ _ (Separators.comment cs after rest m k) h = comment_read cs after m ∙ separators_read after rest k h

-- ---- plain characters

pub plain_is : (x y z v : Bool) → is_plain (cond x kind.Ends (cond y kind.Backslashed (cond z kind.Opening (cond v kind.Variable kind.Plain)))) ≡ (not x && not y && not z && not v)
plain_is true y z v = refl
plain_is false true z v = refl
plain_is false false true v = refl
plain_is false false false true = refl
plain_is false false false false = refl

pub plain_kind : (m : Mode) (c : ℕ) (cs : List ℕ) → is_plain (kind_of m (c ∷ cs)) ≡ stands_for_itself (ends_pieces m) (c ∷ cs)
unfolding kind_of
plain_kind m c cs = plain_is (ends_pieces m (c ∷ cs)) (c == backslash) (c == open_bracket) (c == dollar && begins_variable cs)

-- no plain character stands in front
plain_stops : (m : Mode) (cs : List ℕ) → stands_for_itself (ends_pieces m) cs ≡ false → after_plain m cs ≡ cs
unfolding after_plain
plain_stops m [] h = refl
plain_stops m (c ∷ cs) h = rw (plain_kind m c cs, h) refl

plain_goes_on : (m : Mode) (c : ℕ) (cs : List ℕ) → stands_for_itself (ends_pieces m) (c ∷ cs) ≡ true → after_plain m (c ∷ cs) ≡ after_plain m cs
unfolding after_plain
plain_goes_on m c cs h = rw (plain_kind m c cs, h) refl

pub run_spelled : (m : Mode) (c : ℕ) (cs : List ℕ) → stands_for_itself (ends_pieces m) (c ∷ cs) ≡ true → PlainRun (ends_pieces m) (c ∷ cs) (after_plain m (c ∷ cs))
run_spelled m c [] h = subst (PlainRun (ends_pieces m) (c ∷ [])) (sym (plain_goes_on m c [] h ∙ plain_stops m [] refl)) (PlainRun.last c [] h refl)
run_spelled m c (d ∷ cs) h = elim (cases_Bool (stands_for_itself (ends_pieces m) (d ∷ cs))) [
  | inl more ↦ subst (PlainRun (ends_pieces m) (c ∷ d ∷ cs)) (sym (plain_goes_on m c (d ∷ cs) h)) (PlainRun.more c (d ∷ cs) (after_plain m (d ∷ cs)) h (run_spelled m d cs more))
  | inr stop ↦ subst (PlainRun (ends_pieces m) (c ∷ d ∷ cs)) (sym (plain_goes_on m c (d ∷ cs) h ∙ plain_stops m (d ∷ cs) stop)) (PlainRun.last c (d ∷ cs) h stop)
]

pub run_read : (m : Mode) (cs rest : List ℕ) → PlainRun (ends_pieces m) cs rest → after_plain m cs ≡ rest
run_read m _ _ (PlainRun.last c rest h stop) = plain_goes_on m c rest h ∙ plain_stops m rest stop
run_read m _ _ (PlainRun.more c cs rest h r) = plain_goes_on m c cs h ∙ run_read m cs rest r

-- ---- names

-- of two longest names of a text none is longer
name_le : (cs name other rest : List ℕ) → IsLongestName cs name → cs ≡ other ++ rest → is_name 0 other ≡ true → length other ≤ length name
name_le cs name other rest l e n = elim (cases_lt (length name) (length other)) [
  | inl lt ↦
      let fits : length other ≤ length cs = omega (arith, ap length e, length-append other rest) in
      let front : take (length other) cs ≡ other = ap (take (length other)) e ∙ take_at other rest (length other) refl in
      absurd (true≢false (sym n ∙ ap (is_name 0) (sym front) ∙ l.longest (length other) lt fits))
  | inr le ↦ le
]

same_front : (a b c d : List ℕ) → a ++ b ≡ c ++ d → length a ≡ length c → b ≡ d
same_front a b c d e l = sym (drop-append_seam a b) ∙ ap (drop (length a)) e ∙ ap (λ n. drop n (c ++ d)) l ∙ drop-append_seam c d

pub name_spelled : (cs : List ℕ) → (name : List ℕ) × (cs ≡ name ++ after_name false cs) × IsLongestName cs name
name_spelled cs = let (name, e, n, l) = name_longest cs in (name, e, record { named = n; longest = l })

pub name_read : (cs name rest : List ℕ) → cs ≡ name ++ rest → IsLongestName cs name → after_name false cs ≡ rest
name_read cs name rest e l =
    let (other, f, k) = name_spelled cs in
    let a : length other ≤ length name = name_le cs name other (after_name false cs) l f k.named in
    let b : length name ≤ length other = name_le cs other name rest k e l.named in
    same_front other (after_name false cs) name rest (sym f ∙ e) (omega arith)

-- where no name begins nothing is passed
pub no_name_here : (cs : List ℕ) → begins_name cs ≡ false → after_name false cs ≡ cs
unfolding after_name
no_name_here [] h = refl
no_name_here (c ∷ cs) h = elim (cases_Bool (is_name_char c)) [
  | inl n ↦ absurd (true≢false (let e : true ≡ false = rw n at h in e))
  | inr n ↦ let k : (c == colon && begins colon cs) ≡ false = rw n at h in rw (n, k) refl
]

-- ---- `${name}`

abbrev pub VariableSpelled : List ℕ → List ℕ → Type 0
VariableSpelled cs close = (name : List ℕ) × (rest : List ℕ) × (lacks close_brace name ≡ true) × (cs ≡ name ++ close) × (close ≡ close_brace ∷ rest)

pub variable_brace_spelled : (cs : List ℕ) → IfOk (at_variable_brace cs) (VariableSpelled cs)
unfolding at_variable_brace
variable_brace_spelled [] = tt
variable_brace_spelled (c ∷ cs) = elim (cases_Bool (c == close_brace)) [
  | inl h ↦ rw h ([], cs, refl, refl, ap (λ (x : ℕ). x ∷ cs) (eqb-true c close_brace h))
  | inr h ↦ rw h (if_weak (VariableSpelled cs) (VariableSpelled (c ∷ cs)) (at_variable_brace cs) (variable_brace_spelled cs)
      (λ close (name, rest, l, e, f). (c ∷ name, rest, rw (h, l) refl, ap (λ t. c ∷ t) e, f)))
]

pub variable_brace_read : (name rest : List ℕ) → lacks close_brace name ≡ true → at_variable_brace (name ++ close_brace ∷ rest) ≡ Ok (close_brace ∷ rest)
unfolding at_variable_brace
variable_brace_read [] rest h = refl
variable_brace_read (c ∷ name) rest h =
    let both = and_parts (not (c == close_brace)) (lacks close_brace name) h in
    elim (cases_Bool (c == close_brace)) [
      | inl e ↦ absurd (true≢false (let w : false ≡ true = rw e at both.0 in sym w))
      | inr e ↦ rw e (variable_brace_read name rest both.1)
    ]

-- ---- braces

-- so many braces are open before the text, and the rest begins with the one that closes the first of them
abbrev pub Closes : ℕ → List ℕ → List ℕ → Type 0
Closes zero cs close = (inside : List ℕ) × Balanced inside × (cs ≡ inside ++ close)
Closes (suc d) cs close = (inside : List ℕ) × (after : List ℕ) × Balanced inside × (cs ≡ inside ++ close_brace ∷ after) × Closes d after close

more_inside : (d : ℕ) (front cs close : List ℕ) → ((t : List ℕ) → Balanced t → Balanced (front ++ t)) → Closes d cs close → Closes d (front ++ cs) close
more_inside zero front cs close f (inside, b, e) = (front ++ inside, f inside b, ap (λ t. front ++ t) e ∙ sym (append_assoc front inside close))
more_inside (suc d) front cs close f (inside, after, b, e, k) = (front ++ inside, after, f inside b, ap (λ t. front ++ t) e ∙ sym (append_assoc front inside (close_brace ∷ after)), k)

opened : (d : ℕ) (cs close : List ℕ) → Closes (suc d) cs close → Closes d (open_brace ∷ cs) close
opened zero cs close (inside, after, b, e, (last, l, f)) =
    let whole : cs ≡ (inside ++ close_brace ∷ last) ++ close = e ∙ ap (λ t. inside ++ close_brace ∷ t) f ∙ sym (append_assoc inside (close_brace ∷ last) close) in
    (open_brace ∷ (inside ++ close_brace ∷ last), Balanced.braces (inside ++ close_brace ∷ last) inside last refl b l, ap (λ t. open_brace ∷ t) whole)
opened (suc d) cs close (inside, after, b, e, (last, next, l, f, k)) =
    let whole : cs ≡ (inside ++ close_brace ∷ last) ++ close_brace ∷ next = e ∙ ap (λ t. inside ++ close_brace ∷ t) f ∙ sym (append_assoc inside (close_brace ∷ last) (close_brace ∷ next)) in
    (open_brace ∷ (inside ++ close_brace ∷ last), next, Balanced.braces (inside ++ close_brace ∷ last) inside last refl b l, ap (λ t. open_brace ∷ t) whole, k)

closed : (d : ℕ) (cs close : List ℕ) → Closes d cs close → Closes (suc d) (close_brace ∷ cs) close
closed d cs close k = ([], cs, Balanced.nothing, refl, k)

-- a backslash hides the first character
abbrev hides : Bool → List ℕ → List ℕ
hides true cs = backslash ∷ cs
hides false cs = cs

abbrev BraceSpelled : Bool → ℕ → List ℕ → List ℕ → Type 0
BraceSpelled h d cs close = Closes d (hides h cs) close × ((rest : List ℕ) × (close ≡ close_brace ∷ rest))

closed_at : (d : ℕ) (cs : List ℕ) → IfOk (at_brace false (d - 1) cs) (BraceSpelled false (d - 1) cs) → IfOk (at_brace false d (close_brace ∷ cs)) (BraceSpelled false d (close_brace ∷ cs))
unfolding at_brace
closed_at zero cs h = (([], Balanced.nothing, refl), (cs, refl))
closed_at (suc d) cs h =
    let open_ : (suc d == 0) ≡ false = ne_eqb (suc d) 0 (λ z. absurd (omega (arith, z))) in
    let less : suc d - 1 ≡ d = omega arith in
    rw open_ (if_weak (BraceSpelled false (suc d - 1) cs) (BraceSpelled false (suc d) (close_brace ∷ cs)) (at_brace false (suc d - 1) cs) h
    (λ close (k, b). (closed d cs close (subst (λ n. Closes n cs close) less k), b)))

opened_at : (d : ℕ) (cs : List ℕ) → IfOk (at_brace false (d + 1) cs) (BraceSpelled false (d + 1) cs) → IfOk (at_brace false (d + 1) cs) (BraceSpelled false d (open_brace ∷ cs))
opened_at d cs h =
    let more : d + 1 ≡ suc d = omega arith in
    if_weak (BraceSpelled false (d + 1) cs) (BraceSpelled false d (open_brace ∷ cs)) (at_brace false (d + 1) cs) h (λ close (k, b). (opened d cs close (subst (λ n. Closes n cs close) more k), b))

brace_spelled : (h : Bool) (d : ℕ) (cs : List ℕ) → IfOk (at_brace h d cs) (BraceSpelled h d cs)
unfolding at_brace
brace_spelled h d [] = tt
brace_spelled true d (c ∷ cs) =
    if_weak (BraceSpelled false d cs) (BraceSpelled true d (c ∷ cs)) (at_brace false d cs) (brace_spelled false d cs) (λ close (k, b). (more_inside d (backslash ∷ c ∷ []) cs close (λ t i. Balanced.hidden c t i) k, b))
brace_spelled false d (c ∷ cs) = elim (cases_Bool (c == close_brace)) [
  | inl e ↦ one_is (λ x. IfOk (at_brace false d (x ∷ cs)) (BraceSpelled false d (x ∷ cs))) c close_brace e (closed_at d cs (brace_spelled false (d - 1) cs))
  | inr e ↦ elim (cases_Bool (c == open_brace)) [
    | inl f ↦ one_is (λ x. IfOk (at_brace false d (x ∷ cs)) (BraceSpelled false d (x ∷ cs))) c open_brace f (opened_at d cs (brace_spelled false (d + 1) cs))
    | inr f ↦ elim (cases_Bool (c == backslash)) [
      | inl g ↦ rw (e, f, g) (
          if_weak (BraceSpelled true d cs) (BraceSpelled false d (c ∷ cs)) (at_brace true d cs) (brace_spelled true d cs) (λ close k. one_is (λ x. BraceSpelled false d (x ∷ cs) close) c backslash g k))
      | inr g ↦ rw (e, f, g) (
          if_weak (BraceSpelled false d cs) (BraceSpelled false d (c ∷ cs)) (at_brace false d cs) (brace_spelled false d cs)
          (λ close (k, b). (more_inside d (c ∷ []) cs close (λ t i. Balanced.character c t (eqb-false c open_brace f) (eqb-false c close_brace e) (eqb-false c backslash g) i) k, b)))
    ]
  ]
]

-- a braced text, from behind its `{` on
pub braces_spelled : (cs : List ℕ) → IfOk (at_brace false 0 cs) (λ close. (inside : List ℕ) × (rest : List ℕ) × Balanced inside × (cs ≡ inside ++ close) × (close ≡ close_brace ∷ rest))
braces_spelled cs =
    if_weak (BraceSpelled false 0 cs) (λ close. (inside : List ℕ) × (rest : List ℕ) × Balanced inside × (cs ≡ inside ++ close) × (close ≡ close_brace ∷ rest)) (at_brace false 0 cs) (brace_spelled false 0 cs)
    (λ close ((inside, b, e), (rest, f)). (inside, rest, b, e, f))

closing_depth : (d : ℕ) (rest : List ℕ) → at_brace false (d + 1) (close_brace ∷ rest) ≡ at_brace false d rest
unfolding at_brace
closing_depth d rest =
    let open_ : (d + 1 == 0) ≡ false = ne_eqb (d + 1) 0 (λ z. absurd (omega (arith, z))) in
    let less : d + 1 - 1 ≡ d = omega arith in
    rw (open_, less) refl

balanced_read : (inside rest : List ℕ) (d : ℕ) → Balanced inside → at_brace false d (inside ++ rest) ≡ at_brace false d rest
unfolding at_brace
balanced_read _ rest d Balanced.nothing = refl
balanced_read _ rest d (Balanced.character c cs o e b k) = rw (ne_eqb c close_brace e, ne_eqb c open_brace o, ne_eqb c backslash b) (balanced_read cs rest d k)
balanced_read _ rest d (Balanced.hidden c cs k) = balanced_read cs rest d k
balanced_read _ rest d (Balanced.braces cs inside after e k l) =
    let split : cs ++ rest ≡ inside ++ close_brace ∷ (after ++ rest) = ap (λ t. t ++ rest) e ∙ append_assoc inside (close_brace ∷ after) rest in
    ap (at_brace false (d + 1)) split ∙ balanced_read inside (close_brace ∷ (after ++ rest)) (d + 1) k ∙ closing_depth d (after ++ rest) ∙ balanced_read after rest d l

pub braces_read : (inside rest : List ℕ) → Balanced inside → at_brace false 0 (inside ++ close_brace ∷ rest) ≡ Ok (close_brace ∷ rest)
unfolding at_brace
braces_read inside rest k = balanced_read inside (close_brace ∷ rest) 0 k

-- ---- the text inside braces

pub hidden_spelled : (cs : List ℕ) → UpToHidden cs (after_verbatim cs)
unfolding after_verbatim
hidden_spelled [] = UpToHidden.at_end
hidden_spelled (c ∷ []) = elim (cases_Bool (c == backslash)) [
  | inl b ↦ one_is (λ x. UpToHidden (x ∷ []) []) c backslash b UpToHidden.last_backslash
  | inr b ↦ UpToHidden.character c [] [] (eqb-false c backslash b) UpToHidden.at_end
]
hidden_spelled (c ∷ d ∷ cs) = elim (cases_Bool (c == backslash)) [
  | inl b ↦ elim (cases_Bool (d == newline)) [
    | inl n ↦ rw (b, n) (one_is (λ x. UpToHidden (x ∷ d ∷ cs) (x ∷ d ∷ cs)) c backslash b (one_is (λ x. UpToHidden (backslash ∷ x ∷ cs) (backslash ∷ x ∷ cs)) d newline n (UpToHidden.at_newline cs)))
    | inr n ↦ rw (b, n) (one_is (λ x. UpToHidden (x ∷ d ∷ cs) (after_verbatim cs)) c backslash b (UpToHidden.hidden d cs (after_verbatim cs) (eqb-false d newline n) (hidden_spelled cs)))
  ]
  | inr b ↦ rw b (UpToHidden.character c (d ∷ cs) (after_verbatim (d ∷ cs)) (eqb-false c backslash b) (hidden_spelled (d ∷ cs)))
]

one_verbatim : (c : ℕ) (cs : List ℕ) → (c == backslash) ≡ false → after_verbatim (c ∷ cs) ≡ after_verbatim cs
unfolding after_verbatim
one_verbatim c [] b = refl
one_verbatim c (d ∷ cs) b = rw b refl

pub hidden_read : (cs rest : List ℕ) → UpToHidden cs rest → after_verbatim cs ≡ rest
unfolding after_verbatim
hidden_read _ _ UpToHidden.at_end = refl
hidden_read _ _ (UpToHidden.at_newline cs) = refl
hidden_read _ _ (UpToHidden.character c cs rest b u) = one_verbatim c cs (ne_eqb c backslash b) ∙ hidden_read cs rest u
hidden_read _ _ (UpToHidden.hidden c cs rest n u) = rw (ne_eqb c newline n) (hidden_read cs rest u)
hidden_read _ _ UpToHidden.last_backslash = refl

-- ---- ends

-- where no word ends no blank stands, and no separator
pub solid_blanks : (nested : Bool) (cs : List ℕ) → ends_word nested cs ≡ false → after_blanks cs ≡ cs
unfolding after_blanks
solid_blanks nested [] h = refl
solid_blanks nested (c ∷ []) h = elim (cases_Bool (is_word_space c)) [
  | inl s ↦ absurd (true≢false (let e : true ≡ false = rw s at h in e))
  | inr s ↦ rw s refl
]
solid_blanks nested (c ∷ d ∷ cs) h = elim (cases_Bool (is_word_space c)) [
  | inl s ↦ absurd (true≢false (let e : true ≡ false = rw s at h in e))
  | inr s ↦ elim (cases_Bool (c == backslash && d == newline)) [
    | inl b ↦ absurd (true≢false (sym (or_right _ _ b) ∙ h))
    | inr b ↦ rw (s, b) refl
  ]
]

pub solid_gaps : (nested : Bool) (cs : List ℕ) → ends_word nested cs ≡ false → begins number_sign cs ≡ false → after_gaps gap.Between cs ≡ cs
unfolding after_gaps
solid_gaps nested [] h n = refl
solid_gaps nested (c ∷ cs) h n = rw (gaps_none nested c cs h, n) refl
  where
    parts : (a b d : Bool) → (a || b || d) ≡ false → (a || d) ≡ false
    parts true b d e = absurd (true≢false e)
    parts false true d e = absurd (true≢false e)
    parts false false d e = e

    gaps_none : (nested : Bool) (c : ℕ) (cs : List ℕ) → ends_word nested (c ∷ cs) ≡ false → (is_word_space c || c == newline || c == semicolon || (c == backslash && begins newline cs)) ≡ false
    gaps_none nested c cs e = parts (is_word_space c || c == newline || c == semicolon) (nested && c == close_bracket) (c == backslash && begins newline cs) e

-- and before the end of a script none does
pub script_gaps : (nested : Bool) (cs : List ℕ) → ends_script nested cs ≡ true → after_gaps gap.Between cs ≡ cs
unfolding after_gaps
script_gaps nested [] h = refl
script_gaps nested (c ∷ cs) h = one_is (λ x. after_gaps gap.Between (x ∷ cs) ≡ x ∷ cs) c close_bracket (and_parts nested (c == close_bracket) h).1 refl

pub script_ends_word : (nested : Bool) (cs : List ℕ) → ends_script nested cs ≡ true → ends_word nested cs ≡ true
script_ends_word nested [] h = refl
script_ends_word nested (c ∷ cs) h =
    let both = and_parts nested (c == close_bracket) h in
    one_is (λ x. ends_word nested (x ∷ cs) ≡ true) c close_bracket both.1 (rw both.0 refl)

-- the end of a command
pub end_read : (nested : Bool) (cs rest : List ℕ) → CommandEnd nested cs rest → (ends_word nested cs ≡ true) × (after_blanks cs ≡ cs) × (after_command cs ≡ rest)
unfolding after_blanks
end_read nested _ _ CommandEnd.at_end = (refl, no_blanks_at_end, refl)
  where
    no_blanks_at_end : after_blanks [] ≡ []
    no_blanks_at_end = refl
end_read nested _ _ (CommandEnd.at_separator c rest s) = elim (cases_Bool (c == newline)) [
  | inl n ↦ one_is (λ x. (ends_word nested (x ∷ rest) ≡ true) × (after_blanks (x ∷ rest) ≡ x ∷ rest) × (after_command (x ∷ rest) ≡ rest)) c newline n (refl, no_blank newline rest refl refl, refl)
  | inr n ↦ one_is (λ x. (ends_word nested (x ∷ rest) ≡ true) × (after_blanks (x ∷ rest) ≡ x ∷ rest) × (after_command (x ∷ rest) ≡ rest)) c semicolon (or_cases _ _ s n) (refl, no_blank semicolon rest refl refl, refl)
]
  where
    no_blank : (c : ℕ) (cs : List ℕ) → is_word_space c ≡ false → (c == backslash) ≡ false → after_blanks (c ∷ cs) ≡ c ∷ cs
    no_blank c [] s b = rw s refl
    no_blank c (d ∷ cs) s b = rw (s, b) refl
end_read nested _ _ (CommandEnd.at_bracket rest n) = (rw n refl, bracket_blanks rest, refl)
  where
    bracket_blanks : (cs : List ℕ) → after_blanks (close_bracket ∷ cs) ≡ close_bracket ∷ cs
    bracket_blanks [] = refl
    bracket_blanks (d ∷ cs) = refl
