-- Lists are the same texts, when they are written, where their elements are.
use Rattle.std.proofs.Common.{◌≡◌, ℕ, ◌+◌, ◌<◌, ◌≤◌, ◌++◌, ◌∷◌, [], Bool, true, false, List, length, take, get_or, Ok, sym, ap, ◌∙◌, refl}
use Rattle.std.specs.Cmp.Lexicographic.{bytes_decides}
use Rattle.std.proofs.lemmas.Bool.{false≢true}
use Rattle.std.proofs.lemmas.List.{length-map, map_push, take_more, take_all}
use Rattle.tcl_chars.proofs.Same.{text_is}
use Rattle.tcl_chars.specs.Texts.{same_text}
use Rattle.tcl_list.specs.Elements.{elements_of}
use Rattle.tcl_list.specs.Written.{written}
use Rattle.tcl_pages.specs.Answers.{Answer}
use Rattle.tcl_pages.specs.Texts.{Text}
use Rattle.tcl_values.specs.Kept.{Kept, texts}
use Rattle.tcl_values.proofs.ElementTexts.{text_at}
use Rattle.tcl_values.proofs.Joined.{reads_written}

read_once : (r : Answer (List Text)) (es fs : List Text) → r ≡ Ok es → r ≡ Ok fs → es ≡ fs
read_once r es fs e f = cc

one_written : (es fs : List Text) → written es ≡ written fs → es ≡ fs
one_written es fs e = read_once (elements_of (written es)) es fs (reads_written es) (ap elements_of e ∙ reads_written fs)

pub not_same : (a b : Text) → (a ≡ b → ⊥) → false ≡ same_text a b
not_same a b differ = by (same_text a b) refl
  where
    by : (r : Bool) → same_text a b ≡ r → false ≡ same_text a b
    by true e = absurd (differ (text_is a b e))
    by false e = sym e

pub same_as_itself : (a : Text) → same_text a a ≡ true
same_as_itself a = (bytes_decides a a).1 refl

-- lists of which one is longer
pub others_by_length : (ks ls : List Kept) → (length ks ≡ length ls → ⊥) → false ≡ same_text (written (texts ks)) (written (texts ls))
others_by_length ks ls differ =
    not_same _ _ (λ e. differ (sym (length-map ks (λ (k : Kept). k.text)) ∙ ap length (one_written (texts ks) (texts ls) e) ∙ length-map ls (λ (k : Kept). k.text)))

taken : (ks : List Kept) (i : ℕ) (k : Kept) → i < length ks → k ≡ get_or ks i k → texts (take (i + 1) ks) ≡ texts (take i ks) ++ k.text ∷ []
taken ks i k l is = ap texts (take_more ks i k l ∙ ap (λ x. take i ks ++ x ∷ []) (sym is)) ∙ map_push (λ (q : Kept). q.text) (take i ks) k

-- the first i elements have the same texts, and the next ones have
pub one_more : (ks ls : List Kept) (i : ℕ) (k l : Kept) (b : Bool) → i < length ks → i < length ls → k ≡ get_or ks i k → l ≡ get_or ls i l → b ≡ same_text k.text l.text → b ≡ true
    → texts (take i ks) ≡ texts (take i ls) → texts (take (i + 1) ks) ≡ texts (take (i + 1) ls)
one_more ks ls i k l b within within_other is is_other test holds so_far =
    taken ks i k within is ∙ (λ n. so_far n ++ text_is k.text l.text (sym test ∙ holds) n ∷ []) ∙ sym (taken ls i l within_other is_other)

-- elements at one place differ
pub others_at : (ks ls : List Kept) (i : ℕ) (k l : Kept) (b : Bool) → i < length ks → i < length ls → k ≡ get_or ks i k → l ≡ get_or ls i l → b ≡ same_text k.text l.text → b ≡ false
    → false ≡ same_text (written (texts ks)) (written (texts ls))
others_at ks ls i k l b within within_other is is_other test fails =
    not_same _ _
    (λ e.
    let same : k.text ≡ l.text = text_at ks i k within is ∙ ap (λ (ts : List Text). get_or ts i []) (one_written (texts ks) (texts ls) e) ∙ sym (text_at ls i l within_other is_other) in
    false≢true (sym fails ∙ test ∙ (bytes_decides k.text l.text).1 same))

-- all of them have the same texts
pub all_same : (ks ls : List Kept) (i : ℕ) → length ks ≤ i → length ls ≤ i → texts (take i ks) ≡ texts (take i ls) → true ≡ same_text (written (texts ks)) (written (texts ls))
all_same ks ls i all all_others so_far =
    sym ((bytes_decides _ _).1 (ap written (sym (ap texts (take_all i ks all)) ∙ so_far ∙ ap texts (take_all i ls all_others))))
