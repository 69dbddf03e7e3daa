-- A field takes the arguments that are its own.
use Rattle.std.proofs.Common.{◌≡◌, ℕ, ◌+◌, List, [], ◌∷◌, ◌++◌, length, Option, Some, None, Ok, Err, append_assoc, sym, ap, ◌∙◌, subst, refl, arith, length-append}
use Rattle.tcl_chars.specs.Messages.{number}
use Rattle.tcl_chars.specs.Texts.{literal}
use Rattle.tcl_chars.specs.declared.numbers.Dialect.{Dialect}
use Rattle.tcl_pages.specs.Answers.{Answer, ◌>>=◌}
use Rattle.tcl_pages.specs.Formats.{Taken, argument, size_within, width_from, precision_from, number_field, number_argument, width_taken, precision_taken, sizes_taken, shown, field_taken, padded, scalar, first_characters}
use Rattle.tcl_pages.specs.Texts.{Text}
use Rattle.tcl_pages.specs.declared.formats.Conversion.{Conversion}
use Rattle.tcl_pages.specs.declared.formats.Conversion.TheVariants as conversion
use Rattle.tcl_pages.specs.declared.formats.Field.{Field}
use Rattle.tcl_pages.specs.declared.formats.Layout.{Layout}
use Rattle.tcl_pages.specs.declared.formats.Size.{Size}
use Rattle.tcl_pages.specs.declared.formats.Size.TheVariants as size
use Rattle.tcl_strings.specs.FieldArguments.{size_arguments, precision_arguments, converted_arguments, arguments_of, TakesFront, FrontFault, refused, wanting, FieldTakesItsArguments, FieldFaultIsItsArguments}

abbrev Takes : {A : Type 0} → (List Text → Taken A) → ℕ → Type 0
Takes {A = A} take n = (ws left : List Text) (a : A) → take ws ≡ Ok (a, left) → TakesFront take n ws left a

abbrev Faults : {A : Type 0} → (List Text → Taken A) → ℕ → Type 0
Faults take n = (ws : List Text) (m : Text) → take ws ≡ Err m → FrontFault take n ws m

-- no more than the first n texts decide
abbrev Fronted : {A : Type 0} → (List Text → Taken A) → ℕ → Type 0
Fronted take n = Takes take n × Faults take n

abbrev left_in : {A : Type 0} → List Text → Taken A → List Text
left_in vs (Ok p) = p.1
left_in vs (Err message) = vs

abbrev answer_in : {A : Type 0} → A → Taken A → A
answer_in a (Ok p) = p.0
answer_in a (Err message) = a

abbrev message_in : {A : Type 0} → Taken A → Text
message_in (Ok p) = []
message_in (Err message) = message

-- ---- one behind the other

abbrev both : {A B : Type 0} → (List Text → Taken A) → (A → List Text → Taken B) → List Text → Taken B
both g h ws = g ws >>= λ p. h p.0 p.1

with_second : {A B : Type 0} (h : A → List Text → Taken B) (x y : Taken A) → x ≡ y → (x >>= λ p. h p.0 p.1) ≡ (y >>= λ p. h p.0 p.1)
with_second {A = A} h x y e = ap (λ (r : Taken A). r >>= λ p. h p.0 p.1) e

second_taken : {A B : Type 0} (g : List Text → Taken A) (h : A → List Text → Taken B) (n k : ℕ) (ws left : List Text) (r : Taken A) (b : B) → Takes g n → ((a : A) → Takes (h a) k) → g ws ≡ r
    → (r >>= λ p. h p.0 p.1) ≡ Ok (b, left) → TakesFront (both g h) (n + k) ws left b
second_taken g h n k ws left (Err message) b s t e q = absurd cc
second_taken g h n k ws left (Ok p) b s t e q =
    let first = s ws p.1 p.0 e in
    let second = t p.0 p.1 left b q in
    record {
      taken = first.taken ++ second.taken;
      in_order = first.in_order ∙ ap (λ vs. first.taken ++ vs) second.in_order ∙ sym (append_assoc first.taken second.taken left);
      count = length-append first.taken second.taken ∙ ap (λ i. i + length second.taken) first.count ∙ ap (λ i. n + i) second.count;
      alone =
          λ more. ap (both g h) (append_assoc first.taken second.taken more) ∙ with_second h (g (first.taken ++ (second.taken ++ more))) (Ok (p.0, second.taken ++ more)) (first.alone (second.taken ++ more)) ∙ second.alone more;
    }

first_fault : {A B : Type 0} (g : List Text → Taken A) (h : A → List Text → Taken B) (n k : ℕ) (ws : List Text) (m : Text) → FrontFault g n ws m → FrontFault (both g h) (n + k) ws m
first_fault g h n k ws _ (refused taken rest m o l a) = refused taken rest m o (omega (arith, l)) (λ more. with_second h (g (taken ++ more)) (Err m) (a more))
first_fault g h n k ws _ (wanting l) = wanting (omega (arith, l))

later_fault : {A B : Type 0} (g : List Text → Taken A) (h : A → List Text → Taken B) (n k : ℕ) (ws left : List Text) (a : A) (m : Text) → TakesFront g n ws left a → FrontFault (h a) k left m → FrontFault (both g h) (n + k) ws m
later_fault g h n k ws left a _ first (refused taken rest m o l e) =
    refused (first.taken ++ taken) rest m (first.in_order ∙ ap (λ vs. first.taken ++ vs) o ∙ sym (append_assoc first.taken taken rest)) (omega (arith, length-append first.taken taken, first.count, l))
    (λ more. ap (both g h) (append_assoc first.taken taken more) ∙ with_second h (g (first.taken ++ (taken ++ more))) (Ok (a, taken ++ more)) (first.alone (taken ++ more)) ∙ e more)
later_fault g h n k ws left a _ first (wanting l) = wanting (omega (arith, ap length first.in_order, length-append first.taken left, first.count, l))

second_fault : {A B : Type 0} (g : List Text → Taken A) (h : A → List Text → Taken B) (n k : ℕ) (ws : List Text) (r : Taken A) (m : Text) → Fronted g n → ((a : A) → Faults (h a) k) → g ws ≡ r
    → (r >>= λ p. h p.0 p.1) ≡ Err m → FrontFault (both g h) (n + k) ws m
second_fault g h n k ws (Err message) m s t e q = subst (FrontFault (both g h) (n + k) ws) (ap message_in q) (first_fault g h n k ws message (s.1 ws message e))
second_fault g h n k ws (Ok p) m s t e q = later_fault g h n k ws p.1 p.0 m (s.0 ws p.1 p.0 e) (t p.0 p.1 m q)

both_fronted : {A B : Type 0} (g : List Text → Taken A) (h : A → List Text → Taken B) (n k : ℕ) → Fronted g n → ((a : A) → Fronted (h a) k) → Fronted (both g h) (n + k)
both_fronted g h n k s t =
    (λ ws left b e. second_taken g h n k ws left (g ws) b s.0 (λ a. (t a).0) refl e, λ ws m e. second_fault g h n k ws (g ws) m s (λ a. (t a).1) refl e)

-- ---- no argument

abbrev leaving : {A B : Type 0} → Answer A → (A → B) → List Text → Taken B
leaving x show vs = x >>= λ a. Ok (show a, vs)

none_taken : {A B : Type 0} (x : Answer A) (show : A → B) → Takes (leaving x show) 0
none_taken (Err message) show ws left b e = absurd cc
none_taken (Ok a) show ws left b e =
    record { taken = []; in_order = ap (left_in ws) e; count = refl; alone = λ more. ap (λ x. Ok (x, more)) (ap (answer_in (show a)) e) }

none_fault : {A B : Type 0} (x : Answer A) (show : A → B) → Faults (leaving x show) 0
none_fault (Err message) show ws m e = refused [] ws m refl (omega arith) (λ more. ap Err (ap message_in e))
none_fault (Ok a) show ws m e = absurd cc

none_fronted : {A B : Type 0} (x : Answer A) (show : A → B) → Fronted (leaving x show) 0
none_fronted x show = (none_taken x show, none_fault x show)

-- ---- the parts of a field

argument_takes : Takes argument 1
argument_takes [] left a e = absurd cc
argument_takes (w ∷ ws) left a e =
    record { taken = w ∷ []; in_order = ap (λ vs. w ∷ vs) (ap (left_in ws) e); count = refl; alone = λ more. ap (λ x. Ok (x, more)) (ap (answer_in w) e) }

argument_wants : Faults argument 1
argument_wants [] m e = subst (FrontFault argument 1 []) (ap message_in e) (wanting (omega arith))
argument_wants (w ∷ ws) m e = absurd cc

argument_fronted : Fronted argument 1
argument_fronted = (argument_takes, argument_wants)

number_fronted : (d : Dialect) → Fronted (number_argument d) 1
number_fronted d = both_fronted argument (λ t. leaving (number d t) (λ z. z)) 1 0 argument_fronted (λ t. none_fronted (number d t) (λ z. z))

width_fronted : (d : Dialect) (f : Field) (s : Size) → Fronted (width_taken d f s) (size_arguments s)
width_fronted d f (size.Given n) = none_fronted (size_within n) (λ w. record { left = f.minus; width = w; precision = None })
width_fronted d f size.FromArgument = both_fronted (number_argument d) (λ z. leaving (width_from f z) (λ s. s)) 1 0 (number_fronted d) (λ z. none_fronted (width_from f z) (λ s. s))

precision_fronted : (d : Dialect) (s : Layout) (p : Option Size) → Fronted (precision_taken d s p) (precision_arguments p)
precision_fronted d s None = none_fronted (Ok s) (λ t. t)
precision_fronted d s (Some (size.Given n)) = none_fronted (size_within n) (λ p. record s { precision = Some p })
precision_fronted d s (Some size.FromArgument) = both_fronted (number_argument d) (λ z. leaving (precision_from s z) (λ t. t)) 1 0 (number_fronted d) (λ z. none_fronted (precision_from s z) (λ t. t))

shown_fronted : (d : Dialect) (f : Field) (s : Layout) (k : Conversion) → Fronted (shown d f s k) (converted_arguments k)
shown_fronted d f s (conversion.Number kind) = both_fronted (number_argument d) (λ z. leaving (Ok (number_field f s kind z)) (λ t. t)) 1 0 (number_fronted d) (λ z. none_fronted (Ok (number_field f s kind z)) (λ t. t))
shown_fronted d f s conversion.Character = both_fronted (number_argument d) (λ z. leaving (Ok (padded s (scalar z ∷ []))) (λ t. t)) 1 0 (number_fronted d) (λ z. none_fronted (Ok (padded s (scalar z ∷ []))) (λ t. t))
shown_fronted d f s conversion.Text =
    both_fronted argument (λ t. leaving (Ok (padded s (first_characters s.precision t))) (λ u. u)) 1 0 argument_fronted (λ t. none_fronted (Ok (padded s (first_characters s.precision t))) (λ u. u))
shown_fronted d f s conversion.Percent = none_fronted (Ok (literal "%")) (λ t. t)

-- ---- a field

sizes_fronted : (d : Dialect) (f : Field) → Fronted (sizes_taken d f) (size_arguments f.width + precision_arguments f.precision)
sizes_fronted d f = both_fronted (width_taken d f f.width) (λ w. precision_taken d w f.precision) (size_arguments f.width) (precision_arguments f.precision) (width_fronted d f f.width) (λ w. precision_fronted d w f.precision)

field_fronted : (d : Dialect) (f : Field) → Fronted (field_taken d f) (arguments_of f)
field_fronted d f =
    both_fronted (sizes_taken d f) (λ s. shown d f s f.conversion) (size_arguments f.width + precision_arguments f.precision) (converted_arguments f.conversion) (sizes_fronted d f) (λ s. shown_fronted d f s f.conversion)

pub field_takes_its_arguments : FieldTakesItsArguments
field_takes_its_arguments d f = (field_fronted d f).0

pub field_fault_is_its_arguments : FieldFaultIsItsArguments
field_fault_is_its_arguments d f = (field_fronted d f).1
