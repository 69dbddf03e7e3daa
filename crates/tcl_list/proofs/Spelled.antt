-- What is written spells the elements that were written.
use Rattle.std.proofs.Common.{arith, ◌≡◌, ◌≢◌, ℕ, ◌||◌, ◌&&◌, not, Bool, true, false, List, [], ◌∷◌, ◌++◌, drop, Option, Some, None, sym, ap, ◌∙◌, subst, refl, append_assoc}
use Rattle.std.proofs.lemmas.Bool.{cond_both, and_parts, eqb-true, false≢true, true≢false}
use Rattle.tcl_chars.specs.Characters.{backslash, space, quote, open_brace, close_brace, number_sign}
use Rattle.tcl_chars.specs.Classes.{is_list_space}
use Rattle.tcl_chars.specs.Escape.{escape}
use Rattle.tcl_list.specs.Braces.{is_balanced}
use Rattle.tcl_list.specs.Laws.{WrittenIsSpelled}
use Rattle.tcl_list.specs.Spelling.{Letters, none, plain, escaped, ElementEnds, Spells, bare, braced, Reads, nothing, element}
use Rattle.tcl_list.specs.Spelling as spelling
use Rattle.tcl_list.specs.Written.{is_special, needs_no_backslash, is_continued, is_comment, element_form, behind_backslash, backslashed, all_escaped, spelled, written_element, appended, written_behind}
use Rattle.tcl_list.specs.declared.reading.End.TheVariants.{Space}
use Rattle.tcl_list.specs.declared.writing.Form.TheVariants.{Backslashes}
use Rattle.tcl_list.proofs.Escapes.{sign_escape, says_again, SaysAgain, IsBare, bare_alone}

no_backslash : (c : ℕ) → is_special c ≡ false → c ≢ backslash
no_backslash c s e = true≢false (sym (ap is_special e) ∙ s)

no_brace : (c : ℕ) → is_special c ≡ false → c ≢ open_brace
no_brace c s e = true≢false (sym (ap is_special e) ∙ s)

no_quote : (c : ℕ) → is_special c ≡ false → c ≢ quote
no_quote c s e = true≢false (sym (ap is_special e) ∙ s)

-- ---- bare

bare_char : (c : ℕ) → not (is_list_space c || is_special c) ≡ true → IsBare c
bare_char c h = by_parts (is_list_space c) (is_special c) refl refl h
  where
    by_parts : (a b : Bool) → is_list_space c ≡ a → is_special c ≡ b → not (a || b) ≡ true → IsBare c
    by_parts true b s t k = absurd (false≢true k)
    by_parts false true s t k = absurd (false≢true k)
    by_parts false false s t k = record { solid = s; special = t }

plain_letters : (cs rest : List ℕ) → needs_no_backslash cs ≡ true → Letters Space (cs ++ rest) cs rest
plain_letters [] rest h = none rest
plain_letters (c ∷ cs) rest h =
    let p = and_parts _ _ h in
    let b = bare_char c p.0 in
    plain c (cs ++ rest) cs rest b.solid (no_backslash c b.special) (plain_letters cs rest p.1)

bare_spelled : (c : ℕ) (cs rest : List ℕ) → needs_no_backslash (c ∷ cs) ≡ true → ElementEnds Space rest → Spells ((c ∷ cs) ++ rest) (c ∷ cs) rest
bare_spelled c cs rest h a =
    let b = bare_char c (and_parts _ _ h).0 in
    bare c (cs ++ rest) (c ∷ cs) rest b.solid (no_brace c b.special) (no_quote c b.special) (plain_letters (c ∷ cs) rest h) a

-- ---- braces

braces_spelled : (cs rest : List ℕ) → is_balanced cs ≡ true → ElementEnds Space rest → Spells ((open_brace ∷ (cs ++ close_brace ∷ [])) ++ rest) cs rest
braces_spelled cs rest h a = braced open_brace ((cs ++ close_brace ∷ []) ++ rest) cs rest refl h (append_assoc cs (close_brace ∷ []) rest) a

-- ---- backslashes

escaped_letter : (c b : ℕ) (cs said rest : List ℕ) → escape (backslash ∷ b ∷ cs) ≡ (c, 2) → Letters Space cs said rest → Letters Space (backslash ∷ b ∷ cs) (c ∷ said) rest
escaped_letter c b cs said rest e l =
    let after : drop (escape (backslash ∷ b ∷ cs)).1 (backslash ∷ b ∷ cs) ≡ cs = ap (λ x. drop x.1 (backslash ∷ b ∷ cs)) e in
    subst (λ x. Letters Space (backslash ∷ b ∷ cs) (x.0 ∷ said) rest) e
    (escaped backslash (b ∷ cs) said rest refl (subst (λ t. Letters Space t said rest) (sym after) l))

char_letters : (c : ℕ) (cs said rest : List ℕ) (o : Option ℕ) → behind_backslash c ≡ o → SaysAgain c o → Letters Space cs said rest → Letters Space (backslashed c o ++ cs) (c ∷ said) rest
char_letters c cs said rest None e s l = let b = bare_alone c e in plain c cs said rest b.solid (no_backslash c b.special) l
char_letters c cs said rest (Some b) e s l = escaped_letter c b cs said rest (s cs) l

escaped_letters : (cs rest : List ℕ) → Letters Space (all_escaped cs ++ rest) cs rest
escaped_letters [] rest = none rest
escaped_letters (c ∷ cs) rest =
    subst (λ t. Letters Space t (c ∷ cs) rest) (sym (append_assoc (backslashed c (behind_backslash c)) (all_escaped cs) rest))
    (char_letters c (all_escaped cs ++ rest) cs rest (behind_backslash c) refl (says_again c) (escaped_letters cs rest))

-- the first character of what a bare element is written as
record Begun (cs : List ℕ) : Type 0 where
  first : ℕ
  after : List ℕ
  joined : cs ≡ first ∷ after
  solid : is_list_space first ≡ false
  brace : first ≢ open_brace
  quot : first ≢ quote

begun_by : (c : ℕ) (cs : List ℕ) (o : Option ℕ) → behind_backslash c ≡ o → Begun (backslashed c o ++ cs)
begun_by c cs None e = let b = bare_alone c e in record { first = c; after = cs; joined = refl; solid = b.solid; brace = no_brace c b.special; quot = no_quote c b.special }
begun_by c cs (Some b) e = record { first = backslash; after = b ∷ cs; joined = refl; solid = refl; brace = λ e. absurd (omega arith); quot = λ e. absurd (omega arith) }

from_begun : (cs said rest : List ℕ) → Begun cs → Letters Space cs said rest → ElementEnds Space rest → Spells cs said rest
from_begun cs said rest b l a = subst (λ t. Spells t said rest) (sym b.joined) (bare b.first b.after said rest b.solid b.brace b.quot (subst (λ t. Letters Space t said rest) b.joined l) a)

all_spelled : (c : ℕ) (cs rest : List ℕ) → ElementEnds Space rest → Spells (all_escaped (c ∷ cs) ++ rest) (c ∷ cs) rest
all_spelled c cs rest a =
    from_begun (all_escaped (c ∷ cs) ++ rest) (c ∷ cs) rest
    (subst Begun (sym (append_assoc (backslashed c (behind_backslash c)) (all_escaped cs) rest)) (begun_by c (all_escaped cs ++ rest) (behind_backslash c) refl))
    (escaped_letters (c ∷ cs) rest) a

comment_spelled : (c : ℕ) (cs rest : List ℕ) → c ≡ number_sign → ElementEnds Space rest → Spells (backslash ∷ (all_escaped (c ∷ cs) ++ rest)) (c ∷ cs) rest
comment_spelled c cs rest e a =
    let whole : all_escaped (number_sign ∷ cs) ++ rest ≡ number_sign ∷ (all_escaped cs ++ rest) = refl in
    let l : Letters Space (backslash ∷ number_sign ∷ (all_escaped cs ++ rest)) (number_sign ∷ cs) rest = escaped_letter number_sign number_sign (all_escaped cs ++ rest) cs rest (sign_escape (all_escaped cs ++ rest)) (escaped_letters cs rest) in
    subst (λ x. Spells (backslash ∷ (all_escaped (x ∷ cs) ++ rest)) (x ∷ cs) rest) (sym e)
    (bare backslash (number_sign ∷ (all_escaped cs ++ rest)) (number_sign ∷ cs) rest refl (λ z. absurd (omega arith)) (λ z. absurd (omega arith)) l a)

is_sign : (first : Bool) (c : ℕ) (cs : List ℕ) → is_comment first (c ∷ cs) ≡ true → c ≡ number_sign
is_sign first c cs h = eqb-true c number_sign (and_parts _ _ h).1

backslashes_spelled : (first : Bool) (c : ℕ) (cs rest : List ℕ) → ElementEnds Space rest → Spells (spelled Backslashes first (c ∷ cs) ++ rest) (c ∷ cs) rest
backslashes_spelled first c cs rest a =
    cond_both (is_comment first (c ∷ cs)) _ _ (λ t. Spells (t ++ rest) (c ∷ cs) rest) (λ h. comment_spelled c cs rest (is_sign first c cs h) a) (λ _. all_spelled c cs rest a)

-- ---- each form

form_spelled : (first : Bool) (e rest : List ℕ) → ElementEnds Space rest → Spells (spelled (element_form first e) first e ++ rest) e rest
form_spelled first [] rest a = braces_spelled [] rest refl a
form_spelled first (c ∷ cs) rest a =
    cond_both (needs_no_backslash (c ∷ cs) && not (is_comment first (c ∷ cs))) _ _ (λ f. Spells (spelled f first (c ∷ cs) ++ rest) (c ∷ cs) rest)
    (λ h. bare_spelled c cs rest (and_parts _ _ h).0 a)
    (λ _. cond_both (is_balanced (c ∷ cs) && not (is_continued (c ∷ cs))) _ _ (λ f. Spells (spelled f first (c ∷ cs) ++ rest) (c ∷ cs) rest)
    (λ h. braces_spelled (c ∷ cs) rest (and_parts _ _ h).0 a) (λ _. backslashes_spelled first c cs rest a))

element_spelled : (first : Bool) (e rest : List ℕ) → ElementEnds Space rest → Spells (written_element first e ++ rest) e rest
unfolding written_element
element_spelled first e rest a = form_spelled first e rest a

-- ---- lists

behind_ends : (es : List (List ℕ)) → ElementEnds Space (written_behind es)
unfolding appended
behind_ends [] = tt
behind_ends (e ∷ es) = refl

behind_spelled : (es : List (List ℕ)) → Reads (written_behind es) es
unfolding appended
behind_spelled [] = nothing
behind_spelled (e ∷ es) =
    spelling.space space (written_element false e ++ written_behind es) (e ∷ es) refl
    (element (written_element false e ++ written_behind es) e (written_behind es) es (element_spelled false e (written_behind es) (behind_ends es)) (behind_spelled es))

pub written_is_spelled : WrittenIsSpelled
unfolding appended
written_is_spelled [] = nothing
written_is_spelled (e ∷ es) = element (written_element true e ++ written_behind es) e (written_behind es) es (element_spelled true e (written_behind es) (behind_ends es)) (behind_spelled es)
