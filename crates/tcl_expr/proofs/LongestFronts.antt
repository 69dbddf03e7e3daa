-- Longest fronts: the white space, the run and the stretch at the front of a text.
use Rattle.std.proofs.Common.{◌≡◌, ℕ, Bool, true, false, List, [], ◌∷◌, ◌++◌, Option, Some, None, refl, sym, ap, subst, ◌∙◌}
use Rattle.std.specs.Prelude.{◌==◌, if◌then◌else◌}
use Rattle.std.specs.List.{list_all}
use Rattle.std.proofs.lemmas.Bool.{and_parts, ne_eqb}
use Rattle.tcl_chars.specs.Classes.{is_list_space}
use Rattle.tcl_chars.specs.Place.{before, place}
use Rattle.tcl_chars.specs.Whole.{skip_space}
use Rattle.tcl_words.specs.Parts.{Stretch}
use Rattle.tcl_words.specs.Words.{stretch}
use Rattle.tcl_words.proofs.ReadIsSpelled.{front_is}
use Rattle.tcl_expr.specs.Spelling.{begins_space, IsGap, IsFront, IsRun}
use Rattle.tcl_expr.specs.Token.{Token}
use Rattle.tcl_expr.specs.Tokens.{is_run_char, after_run, begins_run}

-- ---- tests

pub no_clash : (b : Bool) → b ≡ true → b ≡ false → ⊥
no_clash true e f = absurd cc
no_clash false e f = absurd cc

pub branch : {A : Type 0} (P : A → Type 0) (b : Bool) (x y : A) → (b ≡ true → P x) → (b ≡ false → P y) → P (if b then x else y)
branch P true x y f g = f refl
branch P false x y f g = g refl

pub second : {A : Type 0} (a b : Bool) (x y z : A) → a ≡ false → b ≡ true → (if a then x else if b then y else z) ≡ y
second true b x y z e f = absurd cc
second false true x y z e f = refl
second false false x y z e f = absurd cc

pub third : {A : Type 0} (a b c : Bool) (x y z w : A) → a ≡ false → b ≡ false → c ≡ true → (if a then x else if b then y else if c then z else w) ≡ z
third true b c x y z w e f g = absurd cc
third false b c x y z w e f g = second b c y z w f g

-- two characters that a test tells apart
pub other_char : (p : ℕ → Bool) (c d : ℕ) → p c ≡ true → p d ≡ false → (c == d) ≡ false
other_char p c d e f = ne_eqb c d (λ same. no_clash (p d) (sym (ap p same) ∙ e) f)

-- ---- the longest front of characters that pass a test

unfoldable pub past : (ℕ → Bool) → List ℕ → List ℕ
past p [] = []
past p (c ∷ cs) = if p c then past p cs else c ∷ cs

pub starts : (ℕ → Bool) → List ℕ → Bool
starts p [] = false
starts p (c ∷ cs) = p c

pub record Front (p : ℕ → Bool) (cs rest : List ℕ) : Type 0 where
  pub text : List ℕ
  pub joined : cs ≡ text ++ rest
  pub all : list_all p text ≡ true
  pub ends : starts p rest ≡ false

pub front_more : (p : ℕ → Bool) (b : Bool) (c : ℕ) (cs : List ℕ) → p c ≡ b → Front p cs (past p cs) → Front p (c ∷ cs) (if b then past p cs else c ∷ cs)
unfolding starts
front_more p true c cs e g = record { text = c ∷ g.text; joined = ap (λ (z : List ℕ). c ∷ z) g.joined; all = rw e g.all; ends = g.ends }
front_more p false c cs e g = record { text = []; joined = refl; all = refl; ends = e }

pub front : (p : ℕ → Bool) (cs : List ℕ) → Front p cs (past p cs)
unfolding past starts
front p [] = record { text = []; joined = refl; all = refl; ends = refl }
front p (c ∷ cs) = front_more p (p c) c cs refl (front p cs)

pub past_over : (p : ℕ → Bool) (text rest : List ℕ) → list_all p text ≡ true → starts p rest ≡ false → past p (text ++ rest) ≡ rest
unfolding past starts
past_over p [] [] a e = refl
past_over p [] (c ∷ cs) a e = rw e refl
past_over p (c ∷ cs) rest a e = let k = and_parts (p c) (list_all p cs) a in rw k.0 (past_over p cs rest k.1 e)

pub space_past : (cs : List ℕ) → skip_space cs ≡ past is_list_space cs
unfolding past
space_past [] = refl
space_past (c ∷ cs) = ap (λ (z : List ℕ). if is_list_space c then z else c ∷ cs) (space_past cs)

pub run_past : (cs : List ℕ) → after_run cs ≡ past is_run_char cs
unfolding past after_run
run_past [] = refl
run_past (c ∷ cs) = ap (λ (z : List ℕ). if is_run_char c then z else c ∷ cs) (run_past cs)

pub starts_space : (cs : List ℕ) → starts is_list_space cs ≡ begins_space cs
unfolding starts
starts_space [] = refl
starts_space (c ∷ cs) = refl

pub starts_run : (cs : List ℕ) → starts is_run_char cs ≡ begins_run cs
unfolding starts
starts_run [] = refl
starts_run (c ∷ cs) = refl

pub space_gap : (cs : List ℕ) → IsGap cs (skip_space cs)
space_gap cs =
    let f = front is_list_space cs in
    let P : List ℕ → Type 0 = λ z. IsGap cs z in
    subst P (sym (space_past cs)) (record { space = f.text; joined = f.joined; blank = f.all; ends = sym (starts_space _) ∙ f.ends })

pub gap_skipped : (cs here : List ℕ) → IsGap cs here → skip_space cs ≡ here
gap_skipped cs here g = ap skip_space g.joined ∙ space_past (g.space ++ here) ∙ past_over is_list_space g.space here g.blank (starts_space here ∙ g.ends)

pub run_over : (run rest : List ℕ) → list_all is_run_char run ≡ true → begins_run rest ≡ false → after_run (run ++ rest) ≡ rest
run_over run rest a e = run_past (run ++ rest) ∙ past_over is_run_char run rest a (starts_run rest ∙ e)

-- ---- stretches

pub same_stretch : (s : Stretch) (n : ℕ) (xs : List ℕ) → n ≡ s.start → xs ≡ s.text → record { start = n; text = xs } ≡ s
same_stretch s n xs e f = rw (e, f) refl

pub stretch_is : (size : ℕ) (here : List ℕ) (s : Stretch) (rest : List ℕ) → IsFront size here s rest → stretch size here rest ≡ s
stretch_is size here s rest f = same_stretch s (place size here) (before here rest) (sym f.start) (front_is here s.text rest f.joined)

pub front_at : (size : ℕ) (here xs rest : List ℕ) → here ≡ xs ++ rest → IsFront size here (stretch size here rest) rest
front_at size here xs rest e = record { joined = e ∙ ap (λ (z : List ℕ). z ++ rest) (sym (front_is here xs rest e)); start = refl }

-- ---- the run in front

pub run_front : (cs : List ℕ) → Front is_run_char cs (after_run cs)
run_front cs = let P : List ℕ → Type 0 = λ z. Front is_run_char cs z in subst P (sym (run_past cs)) (front is_run_char cs)

pub run_ends : (cs : List ℕ) → begins_run (after_run cs) ≡ false
run_ends cs = sym (starts_run (after_run cs)) ∙ (run_front cs).ends

pub begins_before : (test : List ℕ → Bool) (xs rest : List ℕ) → ((zs : List ℕ) → test zs ≡ true → begins_run zs ≡ true) → ((c : ℕ) (cs ds : List ℕ) → test (c ∷ cs) ≡ test (c ∷ ds)) → test (xs ++ rest) ≡ true → begins_run rest ≡ false → test xs ≡ true
begins_before test [] rest runs first e n = absurd (no_clash (begins_run rest) (runs rest e) n)
begins_before test (c ∷ cs) rest runs first e n = first c cs (cs ++ rest) ∙ e

pub front_run : (cs : List ℕ) → begins_run cs ≡ true → (cs ≡ before cs (after_run cs) ++ after_run cs) × IsRun (before cs (after_run cs))
front_run cs e =
    let f = run_front cs in
    let b : before cs (after_run cs) ≡ f.text = front_is cs f.text (after_run cs) f.joined in
    let some : begins_run f.text ≡ true = begins_before begins_run f.text (after_run cs) (λ zs k. k) (λ c cs ds. refl) (ap begins_run (sym f.joined) ∙ e) (run_ends cs) in
    let P : List ℕ → Type 0 = λ z. (cs ≡ z ++ after_run cs) × IsRun z in
    subst P (sym b) (f.joined, record { some = some; all = f.all })

-- ---- options

pub no_option : (o : Option (Token × List ℕ)) (x : Token × List ℕ) → o ≡ None → o ≡ Some x → ⊥
no_option o x e f = absurd cc
