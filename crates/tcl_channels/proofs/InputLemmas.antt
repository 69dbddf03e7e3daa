-- What is taken of an input's characters: as the channels say it, and as the definition does.
use Rattle.std.proofs.Common.{◌≡◌, ℕ, suc, Bool, true, false, ◌||◌, ◌==◌, [], ◌∷◌, ◌++◌, length, take, drop, Option, Some, refl, sym, ap, ◌∙◌}
use Rattle.std.specs.Prelude.{cond, if◌then◌else◌}
use Rattle.tcl_chan.specs.Characters.{line_taken, text_before, or_empty}
use Rattle.tcl_chars.specs.Characters.{newline}
use Rattle.tcl_chan.specs.Characters as chan
use Rattle.tcl_meaning.specs.Channels.{without_newline, line_count}
use Rattle.tcl_meaning.specs.Input.{a_line, line_length, has_line, input_taken, left, meets_end}
use Rattle.tcl_pages.specs.Texts.{Text, count_text}
use Rattle.tcl_channels.specs.Orders.{line_said}
use Rattle.std.proofs.Math.Bool.{or-true, or-false}

-- ---- a line: what is left

abbrev took_by : Bool → ℕ → Text → Bool → chan.Took (Option Text)
took_by b c cs met = cond b (record { text = Some []; left = record { chars = cs; met_end = met } }) (text_before c (line_taken cs met))

abbrev left_by : Bool → ℕ → Text → Bool → chan.Left
left_by b c cs met = record { chars = drop (if b then 1 else suc (line_length cs)) (c ∷ cs); met_end = met || (if (if b then true else has_line cs) then false else true) }

left_cons : (b : Bool) (c : ℕ) (cs : Text) (met : Bool) → (line_taken cs met).left ≡ record { chars = left a_line cs; met_end = met || meets_end a_line cs }
    → (took_by b c cs met).left ≡ left_by b c cs met
left_cons true c cs met h = λ i. record { chars = cs; met_end = sym (or-false met) i }
left_cons false c cs met h = h

pub line_left : (cs : Text) (met : Bool) → (line_taken cs met).left ≡ record { chars = left a_line cs; met_end = met || meets_end a_line cs }
unfolding line_taken
line_left [] met = λ i. record { chars = []; met_end = sym (or-true met) i }
line_left (c ∷ cs) met = left_cons (c == newline) c cs met (line_left cs met)

-- ---- a line: its text

pub one_more_before : (c : ℕ) (t : Text) → (c == newline) ≡ false → without_newline (c ∷ t) ≡ c ∷ without_newline t
unfolding without_newline
one_more_before c [] e = ap (λ b. if b then [] else c ∷ []) e
one_more_before c (d ∷ t) e = refl

newline_alone : (c : ℕ) → (c == newline) ≡ true → without_newline (c ∷ []) ≡ []
unfolding without_newline
newline_alone c e = ap (λ b. if b then [] else c ∷ []) e

text_cons : (b : Bool) (c : ℕ) (cs : Text) (met : Bool) → (c == newline) ≡ b → or_empty (line_taken cs met).text ≡ without_newline (input_taken a_line cs)
    → or_empty (took_by b c cs met).text ≡ without_newline (take (if b then 1 else suc (line_length cs)) (c ∷ cs))
text_cons true c cs met e h = sym (newline_alone c e)
text_cons false c cs met e h = ap (λ t. c ∷ t) h ∙ sym (one_more_before c (input_taken a_line cs) e)

pub line_text : (cs : Text) (met : Bool) → or_empty (line_taken cs met).text ≡ without_newline (input_taken a_line cs)
unfolding line_taken without_newline
line_text [] met = refl
line_text (c ∷ cs) met = text_cons (c == newline) c cs met refl (line_text cs met)

said_cons : (b : Bool) (c : ℕ) (cs : Text) (met : Bool) → or_empty (took_by b c cs met).text ≡ without_newline (take (if b then 1 else suc (line_length cs)) (c ∷ cs))
    → line_said (took_by b c cs met).text ≡ line_count (take (if b then 1 else suc (line_length cs)) (c ∷ cs))
said_cons true c cs met h = ap (λ t. count_text (length t)) h
said_cons false c cs met h = ap (λ t. count_text (length t)) h

pub line_says : (cs : Text) (met : Bool) → line_said (line_taken cs met).text ≡ line_count (input_taken a_line cs)
unfolding line_taken
line_says [] met = refl
line_says (c ∷ cs) met = said_cons (c == newline) c cs met (text_cons (c == newline) c cs met refl (line_text cs met))

-- ---- a text without its newline

pub without_last_newline : (t : Text) (c : ℕ) → (c == newline) ≡ true → without_newline (t ++ c ∷ []) ≡ t
unfolding without_newline
without_last_newline [] c e = newline_alone c e
without_last_newline (a ∷ []) c e = ap (λ t. a ∷ t) (newline_alone c e)
without_last_newline (a ∷ b ∷ t) c e = ap (λ t. a ∷ t) (without_last_newline (b ∷ t) c e)

pub without_other : (t : Text) (c : ℕ) → (c == newline) ≡ false → without_newline (t ++ c ∷ []) ≡ t ++ c ∷ []
unfolding without_newline
without_other [] c e = one_more_before c [] e
without_other (a ∷ []) c e = ap (λ t. a ∷ t) (one_more_before c [] e)
without_other (a ∷ b ∷ t) c e = ap (λ t. a ∷ t) (without_other (b ∷ t) c e)
