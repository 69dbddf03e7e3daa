-- A format is read from left to right, and what its fields show is put together.
use Rattle.std.proofs.Common.{◌≡◌, ℕ, Bool, false, if◌then◌else◌, List, [], ◌∷◌, ◌++◌, append_assoc, Ok, Err, refl, sym, ap, ◌∙◌, subst}
use Rattle.std.proofs.lemmas.List.{append-nil}
use Rattle.tcl_chars.specs.Answers.{Stops}
use Rattle.tcl_chars.specs.Texts.{text_of}
use Rattle.tcl_chars.specs.declared.fault.Fault.{Fault}
use Rattle.tcl_chars.specs.declared.fault.Fault.TheVariants as fault
use Rattle.tcl_chars.specs.declared.numbers.Dialect.{Dialect}
use Rattle.tcl_pages.specs.Answers.{Answer, ◌>>=◌}
use Rattle.tcl_pages.specs.Formats.{Taken, unended, is_plain, next_of, sizes_taken, step_taken, at_end, with_shown, formatted}
use Rattle.tcl_pages.specs.Texts.{Text}
use Rattle.tcl_pages.specs.declared.formats.Field.{Field}
use Rattle.tcl_pages.specs.declared.formats.FormatStage.{FormatStage}
use Rattle.tcl_pages.specs.declared.formats.FormatStep.{FormatStep}
use Rattle.tcl_pages.specs.declared.formats.Layout.{Layout}
use Rattle.tcl_strings.specs.Shown.{shown_behind}

pub with_nothing : (a : Answer Text) → with_shown [] a ≡ a
with_nothing (Ok t) = refl
with_nothing (Err m) = refl

with_both : (s t : Text) (a : Answer Text) → with_shown s (with_shown t a) ≡ with_shown (s ++ t) a
with_both s t (Ok u) = ap Ok (sym (append_assoc s t u))
with_both s t (Err m) = refl

with_rest : (k : List Text → Answer Text) (t new : Text) (ws left : List Text) → t ≡ new → ws ≡ left → with_shown t (k ws) ≡ with_shown new (k left)
with_rest k t new ws left e f = ap (λ u. with_shown u (k ws)) e ∙ ap (λ vs. with_shown new (k vs)) f

step_on : (r : Taken Text) (said new : Text) (left : List Text) (k : List Text → Answer Text) → shown_behind said r ≡ Ok (new, left) → with_shown said (r >>= λ s. with_shown s.0 (k s.1)) ≡ with_shown new (k left)
step_on (Ok s) said new left k e = with_both said s.0 (k s.1) ∙ with_rest k (said ++ s.0) new s.1 left (ap first e) (ap second e)
  where
    first : Taken Text → Text
    first (Ok p) = p.0
    first (Err m) = []

    second : Taken Text → List Text
    second (Ok p) = p.1
    second (Err m) = []
step_on (Err m) said new left k e = absurd cc

pub goes_on : (d : Dialect) (here : FormatStage) (f : Field) (step : FormatStep) (t behind said new : Text) (ws left : List Text) (c : ℕ) (whole : Answer Text) → t ≡ c ∷ behind → step ≡ next_of here f c
    → shown_behind said (step_taken d f step.part ws) ≡ Ok (new, left) → with_shown said (formatted d here f t ws) ≡ whole → with_shown new (formatted d step.stage step.field behind left) ≡ whole
goes_on d here f step t behind said new ws left c whole e n h k =
    sym (ap (λ u. with_shown said (formatted d here f u ws)) e
    ∙ ap (λ (s : FormatStep). with_shown said (step_taken d f s.part ws >>= λ p. with_shown p.0 (formatted d s.stage s.field behind p.1))) (sym n)
    ∙ step_on (step_taken d f step.part ws) said new left (formatted d step.stage step.field behind) h) ∙ k

step_stops : (r : Taken Text) (said : Text) (x : Fault) (k : List Text → Answer Text) → Stops x (shown_behind said r) → Stops x (with_shown said (r >>= λ s. with_shown s.0 (k s.1)))
step_stops r said fault.Memory k h = tt
step_stops (Ok s) said (fault.Error m) k h = absurd cc
step_stops (Err n) said (fault.Error m) k h = let e : n ≡ text_of m = cc in ap Err e

pub stops_at : (d : Dialect) (here : FormatStage) (f : Field) (step : FormatStep) (t behind said : Text) (ws : List Text) (c : ℕ) (whole : Answer Text) (x : Fault) → t ≡ c ∷ behind → step ≡ next_of here f c
    → Stops x (shown_behind said (step_taken d f step.part ws)) → with_shown said (formatted d here f t ws) ≡ whole → Stops x whole
stops_at d here f step t behind said ws c whole x e n h k =
    subst (Stops x) (sym (ap (λ u. with_shown said (formatted d here f u ws)) e
    ∙ ap (λ (s : FormatStep). with_shown said (step_taken d f s.part ws >>= λ p. with_shown p.0 (formatted d s.stage s.field behind p.1))) (sym n)) ∙ k)
    (step_stops (step_taken d f step.part ws) said x (formatted d step.stage step.field behind) h)

-- at the end
pub open_end : (d : Dialect) (here : FormatStage) (f : Field) (ws : List Text) (b : Bool) (s : Layout × List Text) (m : Text) → b ≡ is_plain here → b ≡ false → sizes_taken d f ws ≡ Ok s → m ≡ unended → at_end d here f ws ≡ Err m
open_end d here f ws b s m e n h k =
    ap (λ (b : Bool). if b then Ok [] else (sizes_taken d f ws >>= λ s. Err unended)) (sym e ∙ n) ∙ ap (λ (r : Taken Layout). r >>= λ s. Err unended) h ∙ ap Err (sym k)

pub ends_there : (d : Dialect) (here : FormatStage) (f : Field) (t said : Text) (ws : List Text) (whole : Answer Text) → t ≡ [] → at_end d here f ws ≡ Ok [] → with_shown said (formatted d here f t ws) ≡ whole → whole ≡ Ok said
ends_there d here f t said ws whole e h k = sym (sym (ap (λ u. with_shown said (formatted d here f u ws)) e ∙ ap (with_shown said) h ∙ ap Ok (append-nil said)) ∙ k)

end_stops : (a : Answer Text) (said : Text) (x : Fault) → Stops x a → Stops x (with_shown said a)
end_stops a said fault.Memory h = tt
end_stops (Ok t) said (fault.Error m) h = absurd cc
end_stops (Err n) said (fault.Error m) h = h

pub stops_there : (d : Dialect) (here : FormatStage) (f : Field) (t said : Text) (ws : List Text) (whole : Answer Text) (x : Fault) → t ≡ [] → Stops x (at_end d here f ws) → with_shown said (formatted d here f t ws) ≡ whole → Stops x whole
stops_there d here f t said ws whole x e h k = subst (Stops x) (sym (ap (λ u. with_shown said (formatted d here f u ws)) e) ∙ k) (end_stops (at_end d here f ws) said x h)
