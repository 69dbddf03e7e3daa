-- What a writer puts behind a backslash says the character again.
use Rattle.std.proofs.Common.{◌≡◌, ℕ, ◌<◌, ◌==◌, true, false, List, ◌∷◌, Option, Some, None, sym, ap, ◌∙◌, refl, arith}
use Rattle.std.specs.Char.{digit_value}
use Rattle.std.proofs.lemmas.Bool.{cond-true, cond-false, cond_both, eqb-true, eq-eqb}
use Rattle.std.proofs.lemmas.Bool.Decides.{nat_tests}
use Rattle.tcl_chars.specs.Characters.{backslash, space, newline, number_sign}
use Rattle.tcl_chars.specs.Classes.{is_list_space}
use Rattle.tcl_chars.specs.Escape.{escape, escape_of, by_control, by_code_form, control_of, code_form, longest_run}
use Rattle.tcl_chars.proofs.Runs.{longest_is, run_ends_at_other}
use Rattle.tcl_list.specs.Written.{is_special, behind_backslash}

-- no escape begins with the character, but that of itself
record IsSelf (c : ℕ) : Type 0 where
  control : control_of c ≡ None
  code : code_form c ≡ None
  line : (c == newline) ≡ false
  digit : digit_value c < 8 → ⊥

special_is_self : (c : ℕ) → is_special c ≡ true → IsSelf c
special_is_self c h = record { control = grind (arith, nat_tests); code = grind (arith, nat_tests); line = grind (arith, nat_tests); digit = λ d. grind (arith, nat_tests) }

space_is_self : IsSelf space
space_is_self = record { control = refl; code = refl; line = refl; digit = λ d. absurd (omega arith) }

sign_is_self : IsSelf number_sign
sign_is_self = record { control = refl; code = refl; line = refl; digit = λ d. absurd (omega arith) }

no_octal : (c : ℕ) (cs : List ℕ) → (digit_value c < 8 → ⊥) → longest_run 8 255 (c ∷ cs) 3 ≡ 0
no_octal c cs d = longest_is 8 255 (c ∷ cs) 0 3 (omega arith) (omega arith) (omega arith, tt, omega arith) (λ _. run_ends_at_other 8 255 (c ∷ cs) cs 0 c refl d)

self_escape : (c : ℕ) (cs : List ℕ) → IsSelf c → escape (backslash ∷ c ∷ cs) ≡ (c, 2)
unfolding escape_of
self_escape c cs s =
    ap (by_control c cs) s.control ∙ ap (by_code_form c cs) s.code ∙ cond-false _ _ _ s.line ∙ cond-true _ _ _ (eq-eqb _ 0 (no_octal c cs s.digit))

control_escape : (b x : ℕ) (cs : List ℕ) → control_of b ≡ Some x → escape (backslash ∷ b ∷ cs) ≡ (x, 2)
unfolding escape_of
control_escape b x cs h = ap (by_control b cs) h

pub sign_escape : (cs : List ℕ) → escape (backslash ∷ number_sign ∷ cs) ≡ (number_sign, 2)
sign_escape cs = self_escape number_sign cs sign_is_self

-- the character that stands behind a backslash in the place of another
abbrev pub SaysAgain : ℕ → Option ℕ → Type 0
SaysAgain c None = Unit {0}
SaysAgain c (Some b) = (cs : List ℕ) → escape (backslash ∷ b ∷ cs) ≡ (c, 2)

control_again : (c b x : ℕ) → (c == x) ≡ true → control_of b ≡ Some x → (cs : List ℕ) → escape (backslash ∷ b ∷ cs) ≡ (c, 2)
control_again c b x e h cs = control_escape b x cs h ∙ ap (λ y. (y, 2)) (sym (eqb-true c x e))

pub says_again : (c : ℕ) → SaysAgain c (behind_backslash c)
says_again c =
    cond_both (c == 9) _ _ (SaysAgain c) (λ e. control_again c 116 9 e refl)
    (λ _. cond_both (c == newline) _ _ (SaysAgain c) (λ e. control_again c 110 newline e refl)
    (λ _. cond_both (c == 11) _ _ (SaysAgain c) (λ e. control_again c 118 11 e refl)
    (λ _. cond_both (c == 12) _ _ (SaysAgain c) (λ e. control_again c 102 12 e refl)
    (λ _. cond_both (c == 13) _ _ (SaysAgain c) (λ e. control_again c 114 13 e refl)
    (λ _. cond_both (c == space) _ _ (SaysAgain c) (λ e cs. self_escape space cs space_is_self ∙ ap (λ y. (y, 2)) (sym (eqb-true c space e)))
    (λ _. cond_both (is_special c) _ _ (SaysAgain c) (λ s cs. self_escape c cs (special_is_self c s)) (λ _. tt)))))))

-- a character that needs no backslash
pub record IsBare (c : ℕ) : Type 0 where
  pub solid : is_list_space c ≡ false
  pub special : is_special c ≡ false

pub bare_alone : (c : ℕ) → behind_backslash c ≡ None → IsBare c
bare_alone c h = record { solid = grind (arith, nat_tests); special = grind (arith, nat_tests) }
