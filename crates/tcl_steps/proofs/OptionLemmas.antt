-- Options as a list of names and values in turn.
use Rattle.std.proofs.Common.{◌≡◌, ℕ, ◌+◌, ◌<◌, List, [], ◌∷◌, ◌++◌, take, length, get_or, append_assoc, refl, sym, ap, ◌∙◌}
use Rattle.std.proofs.lemmas.List.{take_more}
use Rattle.tcl_chars.specs.Texts.{literal}
use Rattle.tcl_list.specs.Written.{written}
use Rattle.tcl_meaning.specs.Completions.{Completion, code_number, options_text}
use Rattle.tcl_pages.specs.DictPages.{flat}
use Rattle.tcl_pages.specs.Texts.{Text, count_text, number_text}

flat_last : (os : List (Text × Text)) (o : Text × Text) → flat (os ++ o ∷ []) ≡ flat os ++ o.0 ∷ o.1 ∷ []
flat_last [] o = refl
flat_last (p ∷ os) o = ap (λ (ts : List Text). p.0 ∷ p.1 ∷ ts) (flat_last os o)

pub one_option : (os : List (Text × Text)) (i : ℕ) (o d : Text × Text) (before so_far after more : List Text) → i < length os → o ≡ get_or os i d → so_far ≡ before ++ flat (take i os) → after ≡ so_far ++ o.0 ∷ []
    → more ≡ after ++ o.1 ∷ [] → more ≡ before ++ flat (take (i + 1) os)
one_option os i o d before so_far after more h is e f g =
    g ∙ ap (λ (ts : List Text). ts ++ o.1 ∷ []) f ∙ append_assoc so_far (o.0 ∷ []) (o.1 ∷ [])
    ∙ ap (λ (ts : List Text). ts ++ o.0 ∷ o.1 ∷ []) e ∙ append_assoc before (flat (take i os)) (o.0 ∷ o.1 ∷ [])
    ∙ ap (λ (ts : List Text). before ++ ts) (sym (flat_last (take i os) o) ∙ ap (λ (p : Text × Text). flat (take i os ++ p ∷ [])) is ∙ ap flat (sym (take_more os i d h)))

-- the code and the level, and then the others
pub options_are : (c : Completion) (none one two three four all : List Text) (a b d e : Text) → none ≡ [] → one ≡ none ++ a ∷ [] → two ≡ one ++ b ∷ [] → three ≡ two ++ d ∷ [] → four ≡ three ++ e ∷ [] → all ≡ four ++ flat c.options
    → a ≡ literal "-code" → b ≡ number_text (code_number c.code) → d ≡ literal "-level" → e ≡ count_text c.level → written all ≡ options_text c
unfolding options_text
options_are c none one two three four all a b d e h h1 h2 h3 h4 h5 ea eb ed ee = rw (h5, h4, h3, h2, h1, h, ea, eb, ed, ee)
