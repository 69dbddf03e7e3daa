-- What format answers is what its text shows of the arguments, and its error is the first fault.
use Rattle.std.proofs.Common.{◌≡◌, ◌≢◌, ℕ, zero, suc, ◌<◌, ◌≤◌, ◌==◌, List, [], ◌∷◌, ◌++◌, length, Option, Some, None, Ok, Err, sym, ap, ◌∙◌, subst, refl, arith, inl, inr, ◌⊎◌, length-append}
use Rattle.std.proofs.lemmas.List.{append-nil}
use Rattle.std.proofs.lemmas.Bool.{cases_Bool, eqb-true, eqb-false, ne_eqb}
use Rattle.tcl_chars.specs.declared.numbers.Dialect.{Dialect}
use Rattle.tcl_pages.specs.Answers.{Answer, ◌>>=◌}
use Rattle.tcl_pages.specs.Formats.{Taken, no_field, unended, bad_field, converted, conversion_of, next_of, sizes_taken, field_taken, part_taken, step_taken, at_end, with_shown, formatted, percent}
use Rattle.tcl_pages.specs.Texts.{Text}
use Rattle.tcl_pages.specs.declared.formats.Conversion.{Conversion}
use Rattle.tcl_pages.specs.declared.formats.Field.{Field}
use Rattle.tcl_pages.specs.declared.formats.FormatPart.{FormatPart}
use Rattle.tcl_pages.specs.declared.formats.FormatPart.TheVariants as part
use Rattle.tcl_pages.specs.declared.formats.FormatStage.{FormatStage}
use Rattle.tcl_pages.specs.declared.formats.FormatStage.TheVariants as stage
use Rattle.tcl_pages.specs.declared.formats.FormatStep.{FormatStep}
use Rattle.tcl_pages.specs.declared.formats.Layout.{Layout}
use Rattle.tcl_strings.specs.FieldGrammar.{IsHead, IsField, NoLetter, Lacks}
use Rattle.tcl_strings.specs.FieldLaws.{Reading, part_or, part_read, directive}
use Rattle.tcl_strings.specs.FormatText.{FormatShows, FormatFault, FormatIsShown, FormatFaultIsFirst, OneFormat, FormatOrFault}
use Rattle.tcl_strings.specs.FormatText as format
use Rattle.tcl_strings.proofs.FieldHeads.{field_read}
use Rattle.tcl_strings.proofs.FieldReading.{ReadIs, read_of, refusal_read, beginning_read}
use Rattle.tcl_strings.proofs.FieldStages.{At, at_start, Onward, onward}
use Rattle.tcl_strings.proofs.FieldStages as stages
use Rattle.tcl_strings.proofs.Showing.{with_nothing}

-- ---- a field is taken as a whole

-- from a format's plain stage on
abbrev said_of : Dialect → Text → List Text → Answer Text
said_of d t ws = formatted d stage.Plain no_field t ws

-- behind the sizes of a field without a letter
abbrev open_behind : Taken Layout → Answer Text
open_behind r = r >>= λ s. Err unended

abbrev letterless : ℕ → Taken Layout → Taken Text
letterless c r = r >>= λ s. Err (bad_field c)

-- behind what is shown
abbrev then_said : Dialect → Text → Taken Text → Answer Text
then_said d rest r = r >>= λ s. with_shown s.0 (said_of d rest s.1)

-- what a part shows, and what follows it
abbrev behind_of : Dialect → List Text → Field → Option (FormatPart × Text) → Answer Text
behind_of d ws f None = open_behind (sizes_taken d f ws)
behind_of d ws f (Some p) = then_said d p.1 (part_taken d f p.0 ws)

abbrev behind_part : Dialect → List Text → Reading → Answer Text
behind_part d ws r = behind_of d ws r.field r.part

ends_inside : (d : Dialect) (ws : List Text) (s : FormatStage) (h : Text) (f : Field) → At s h f → at_end d s f ws ≡ open_behind (sizes_taken d f ws)
ends_inside d ws stage.Plain h f a = absurd a
ends_inside d ws stage.Flags h f a = refl
ends_inside d ws stage.Width h f a = refl
ends_inside d ws stage.BehindWidth h f a = refl
ends_inside d ws stage.Precision h f a = refl
ends_inside d ws stage.PrecisionDigits h f a = refl
ends_inside d ws stage.BehindPrecision h f a = refl
ends_inside d ws stage.BehindL h f a = refl
ends_inside d ws stage.BehindLl h f a = refl

-- one character and what follows it
abbrev behind_step : Dialect → List Text → Field → Text → FormatStep → Answer Text
behind_step d ws f cs x = step_taken d f x.part ws >>= λ s. with_shown s.0 (formatted d x.stage x.field cs s.1)

abbrev read_step : Field → Text → FormatStep → Reading
read_step f cs x = part_or x.part f cs (part_read x.stage x.field cs)

at_last : (d : Dialect) (ws : List Text) (cs : Text) (f : Field) (c : ℕ) (o : Option Conversion) → behind_step d ws f cs (converted f c o) ≡ behind_part d ws (read_step f cs (converted f c o))
at_last d ws cs f c None = refl
at_last d ws cs f c (Some k) = refl

whole_on : (d : Dialect) (ws : List Text) (h cs : Text) (f : Field) (c : ℕ) (x : FormatStep) → Onward h f c x
    → ((u : FormatStage) (g : Field) → At u (h ++ c ∷ []) g → formatted d u g cs ws ≡ behind_part d ws (part_read u g cs)) → behind_step d ws f cs x ≡ behind_part d ws (read_step f cs x)
whole_on d ws h cs f c _ (stages.more u g a) later = with_nothing (formatted d u g cs ws) ∙ later u g a
whole_on d ws h cs f c _ stages.last later = at_last d ws cs f c (conversion_of c)

whole_from : (d : Dialect) (ws : List Text) (s : FormatStage) (f : Field) (h t : Text) → At s h f → formatted d s f t ws ≡ behind_part d ws (part_read s f t)
whole_from d ws s f h [] a = ends_inside d ws s h f a
whole_from d ws s f h (c ∷ cs) a = whole_on d ws h cs f c (next_of s f c) (onward s h f c a) (λ u g b. whole_from d ws u g (h ++ c ∷ []) cs b)

at_percent : (d : Dialect) (t : Text) (ws : List Text) → said_of d (percent ∷ t) ws ≡ behind_part d ws (directive t)
at_percent d t ws = with_nothing (formatted d stage.Flags no_field t ws) ∙ whole_from d ws stage.Flags no_field [] t at_start

at_plain : (d : Dialect) (c : ℕ) (cs : Text) (ws : List Text) → c ≢ percent → said_of d (c ∷ cs) ws ≡ with_shown (c ∷ []) (said_of d cs ws)
at_plain d c cs ws n = rw (ne_eqb c percent n) refl

-- ---- what is related is answered

at_field : (d : Dialect) (t rest : Text) (f : Field) (ws : List Text) → IsField t f → said_of d (percent ∷ (t ++ rest)) ws ≡ then_said d rest (field_taken d f ws)
at_field d t rest f ws h = at_percent d (t ++ rest) ws ∙ ap (behind_part d ws) (field_read t rest f h)

shown_is_said : (d : Dialect) (t : Text) (ws : List Text) (said : Text) → FormatShows d t ws said → said_of d t ws ≡ Ok said
shown_is_said d _ _ _ (format.nothing ws) = refl
shown_is_said d _ _ _ (format.plain c cs said ws n h) = at_plain d c cs ws n ∙ ap (with_shown (c ∷ [])) (shown_is_said d cs ws said h)
shown_is_said d _ _ _ (format.field t rest shows said f ws left i e h) =
    at_field d t rest f ws i ∙ ap (then_said d rest) e ∙ ap (with_shown shows) (shown_is_said d rest left said h)

open_said : (d : Dialect) (t : Text) (f : Field) (ws : List Text) → IsHead t f → said_of d (percent ∷ t) ws ≡ open_behind (sizes_taken d f ws)
open_said d t f ws h = at_percent d t ws ∙ ap (behind_part d ws) (beginning_read t f h)

letterless_said : (d : Dialect) (head rest : Text) (f : Field) (c : ℕ) (ws : List Text) → NoLetter head f c → said_of d (percent ∷ (head ++ c ∷ rest)) ws ≡ then_said d rest (letterless c (sizes_taken d f ws))
letterless_said d head rest f c ws n = at_percent d (head ++ c ∷ rest) ws ∙ ap (behind_part d ws) (refusal_read head rest f c n)

size_said : (d : Dialect) (head rest m : Text) (f : Field) (ws : List Text) → Lacks head f rest → sizes_taken d f ws ≡ Err m → said_of d (percent ∷ (head ++ rest)) ws ≡ Err m
size_said d head [] m f ws h e = ap (λ t. said_of d (percent ∷ t) ws) (append-nil head) ∙ open_said d head f ws h ∙ ap open_behind e
size_said d head (c ∷ rest) m f ws n e = letterless_said d head rest f c ws n ∙ ap (λ r. then_said d rest (letterless c r)) e

fault_is_said : (d : Dialect) (t : Text) (ws : List Text) (m : Text) → FormatFault d t ws m → said_of d t ws ≡ Err m
fault_is_said d _ _ _ (format.plain c cs m ws n h) = at_plain d c cs ws n ∙ ap (with_shown (c ∷ [])) (fault_is_said d cs ws m h)
fault_is_said d _ _ _ (format.field t rest shows m f ws left i e h) =
    at_field d t rest f ws i ∙ ap (then_said d rest) e ∙ ap (with_shown shows) (fault_is_said d rest left m h)
fault_is_said d _ _ _ (format.argument t rest m f ws i e) = at_field d t rest f ws i ∙ ap (then_said d rest) e
fault_is_said d _ _ _ (format.size head rest m f ws l e) = size_said d head rest m f ws l e
fault_is_said d _ _ _ (format.no_letter head rest f c ws left s n e) = letterless_said d head rest f c ws n ∙ ap (λ r. then_said d rest (letterless c r)) e
fault_is_said d _ _ _ (format.cut_off t f ws left s h e) = open_said d t f ws h ∙ ap open_behind e

-- ---- what is answered is related

abbrev Related : Dialect → Text → List Text → Answer Text → Type 0
Related d t ws (Ok said) = FormatShows d t ws said
Related d t ws (Err m) = FormatFault d t ws m

plain_related : (d : Dialect) (c : ℕ) (cs : Text) (ws : List Text) (a : Answer Text) → c ≢ percent → Related d cs ws a → Related d (c ∷ cs) ws (with_shown (c ∷ []) a)
plain_related d c cs ws (Ok said) n h = format.plain c cs said ws n h
plain_related d c cs ws (Err m) n h = format.plain c cs m ws n h

behind_related : (d : Dialect) (t rest shows : Text) (f : Field) (ws left : List Text) (a : Answer Text) → IsField t f → field_taken d f ws ≡ Ok (shows, left) → Related d rest left a
    → Related d (percent ∷ (t ++ rest)) ws (with_shown shows a)
behind_related d t rest shows f ws left (Ok said) i e h = format.field t rest shows said f ws left i e h
behind_related d t rest shows f ws left (Err m) i e h = format.field t rest shows m f ws left i e h

field_related : (d : Dialect) (t rest : Text) (f : Field) (ws : List Text) (r : Taken Text) → IsField t f → field_taken d f ws ≡ r → ((left : List Text) → Related d rest left (said_of d rest left))
    → Related d (percent ∷ (t ++ rest)) ws (then_said d rest r)
field_related d t rest f ws (Ok s) i e later = behind_related d t rest s.0 f ws s.1 (said_of d rest s.1) i e (later s.1)
field_related d t rest f ws (Err m) i e later = format.argument t rest m f ws i e

open_related : (d : Dialect) (t : Text) (f : Field) (ws : List Text) (r : Taken Layout) → IsHead t f → sizes_taken d f ws ≡ r → Related d (percent ∷ t) ws (open_behind r)
open_related d t f ws (Ok s) h e = format.cut_off t f ws s.1 s.0 h e
open_related d t f ws (Err m) h e = subst (λ u. FormatFault d (percent ∷ u) ws m) (append-nil t) (format.size t [] m f ws h e)

letterless_related : (d : Dialect) (head rest : Text) (f : Field) (c : ℕ) (ws : List Text) (r : Taken Layout) → NoLetter head f c → sizes_taken d f ws ≡ r
    → Related d (percent ∷ (head ++ c ∷ rest)) ws (then_said d rest (letterless c r))
letterless_related d head rest f c ws (Ok s) n e = format.no_letter head rest f c ws s.1 s.0 n e
letterless_related d head rest f c ws (Err m) n e = format.size head (c ∷ rest) m f ws n e

percent_related : (d : Dialect) (t : Text) (ws : List Text) (f : Field) (r : Option (FormatPart × Text)) → ReadIs t f r → ((rest : Text) (left : List Text) → length rest ≤ length t → Related d rest left (said_of d rest left))
    → Related d (percent ∷ t) ws (behind_of d ws f r)
percent_related d t ws f None h later = open_related d t f ws (sizes_taken d f ws) h refl
percent_related d t ws f (Some (part.Character c, rest)) h later = absurd h
percent_related d t ws f (Some (part.Field g, rest)) h later =
    subst (λ u. Related d (percent ∷ u) ws (then_said d rest (field_taken d g ws))) (sym h.1)
    (field_related d h.0 rest g ws (field_taken d g ws) h.2 refl (λ left. later rest left (omega (arith, ap length h.1, length-append h.0 rest))))
percent_related d t ws f (Some (part.NoConversion c, rest)) h later =
    subst (λ u. Related d (percent ∷ u) ws (then_said d rest (letterless c (sizes_taken d f ws)))) (sym h.1) (letterless_related d h.0 rest f c ws (sizes_taken d f ws) h.2 refl)

character_related : (d : Dialect) (c : ℕ) (cs : Text) (ws : List Text) → ((rest : Text) (left : List Text) → length rest ≤ length cs → Related d rest left (said_of d rest left)) → Related d (c ∷ cs) ws (said_of d (c ∷ cs) ws)
character_related d c cs ws later = elim (cases_Bool (c == percent)) [
  | inl e ↦
      subst (λ b. Related d (b ∷ cs) ws (said_of d (b ∷ cs) ws)) (sym (eqb-true c percent e))
      (subst (Related d (percent ∷ cs) ws) (sym (at_percent d cs ws)) (percent_related d cs ws (directive cs).field (directive cs).part (read_of cs) later))
  | inr n ↦
      let other : c ≢ percent = eqb-false c percent n in
      subst (Related d (c ∷ cs) ws) (sym (at_plain d c cs ws other)) (plain_related d c cs ws (said_of d cs ws) other (later cs ws (omega arith)))
]

related_below : (n : ℕ) (d : Dialect) (t : Text) (ws : List Text) → length t < n → Related d t ws (said_of d t ws)
related_below zero d t ws l = absurd (omega arith)
related_below (suc n) d [] ws l = format.nothing ws
related_below (suc n) d (c ∷ cs) ws l = character_related d c cs ws (λ rest left s. related_below n d rest left (omega arith))

related : (d : Dialect) (t : Text) (ws : List Text) → Related d t ws (said_of d t ws)
related d t ws = related_below (suc (length t)) d t ws (omega arith)

-- ---- the laws

pub format_is_shown : FormatIsShown
format_is_shown d t said ws = (λ e. subst (Related d t ws) e (related d t ws), shown_is_said d t ws said)

pub format_fault_is_first : FormatFaultIsFirst
format_fault_is_first d t m ws = (λ e. subst (Related d t ws) e (related d t ws), fault_is_said d t ws m)

same_text_said : (a b : Text) (r : Answer Text) → r ≡ Ok a → r ≡ Ok b → a ≡ b
same_text_said a b r h k = cc

pub one_format : OneFormat
one_format d t a b ws h k = same_text_said a b (said_of d t ws) (shown_is_said d t ws a h) (shown_is_said d t ws b k)

never_both : (said m : Text) (r : Answer Text) → r ≡ Ok said → r ≡ Err m → ⊥
never_both said m r h k = cc

either : (d : Dialect) (t : Text) (ws : List Text) (r : Answer Text) → Related d t ws r → ((said : Text) × FormatShows d t ws said) ⊎ ((m : Text) × FormatFault d t ws m)
either d t ws (Ok said) h = inl (said, h)
either d t ws (Err m) h = inr (m, h)

pub format_or_fault : FormatOrFault
format_or_fault d t ws = (either d t ws (said_of d t ws) (related d t ws), λ said m h k. never_both said m (said_of d t ws) (shown_is_said d t ws said h) (fault_is_said d t ws m k))
