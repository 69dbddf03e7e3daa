-- A directive is read as the relation says.
use Rattle.std.proofs.Common.{◌≡◌, ℕ, [], ◌∷◌, ◌++◌, Option, Some, None, append_assoc, sym, ap, ◌∙◌, subst, refl}
use Rattle.std.proofs.lemmas.List.{append-nil, append_cancel_right}
use Rattle.tcl_pages.specs.Formats.{no_field, converted, conversion_of, next_of}
use Rattle.tcl_pages.specs.Texts.{Text}
use Rattle.tcl_pages.specs.declared.formats.Conversion.{Conversion}
use Rattle.tcl_pages.specs.declared.formats.Conversion.TheVariants as conversion
use Rattle.tcl_pages.specs.declared.formats.Field.{Field}
use Rattle.tcl_pages.specs.declared.formats.FormatPart.{FormatPart}
use Rattle.tcl_pages.specs.declared.formats.FormatPart.TheVariants as part
use Rattle.tcl_pages.specs.declared.formats.FormatStage.{FormatStage}
use Rattle.tcl_pages.specs.declared.formats.FormatStage.TheVariants as stage
use Rattle.tcl_pages.specs.declared.formats.FormatStep.{FormatStep}
use Rattle.tcl_strings.specs.FieldGrammar.{Begins, IsHead, IsField, NoLetter}
use Rattle.tcl_strings.specs.FieldLaws.{Reading, part_or, part_read, directive, FieldIsRead, RefusalIsNoLetter, UnendedIsBeginning, OneField, FieldOrFault, Directive}
use Rattle.tcl_strings.specs.FieldLaws as law
use Rattle.tcl_strings.proofs.FieldHeads.{head_go, field_read}
use Rattle.tcl_strings.proofs.FieldStages.{At, at_head, at_start, Onward, more, last, onward}
use Rattle.tcl_strings.proofs.FieldSteps.{Goes}

-- ---- what is read stands there

abbrev pub ReadIs : Text → Field → Option (FormatPart × Text) → Type 0
ReadIs t f None = IsHead t f
ReadIs t f (Some (part.Character c, rest)) = ⊥
ReadIs t f (Some (part.Field g, rest)) = (d : Text) × (t ≡ d ++ rest) × IsField d g
ReadIs t f (Some (part.NoConversion c, rest)) = (head : Text) × (t ≡ head ++ c ∷ rest) × NoLetter head f c

abbrev pub ReadOf : Text → Reading → Type 0
ReadOf t r = ReadIs t r.field r.part

abbrev part_in : Reading → Option (FormatPart × Text)
part_in r = r.part

abbrev pub open_at : Field → Reading
open_at f = record { part = None; field = f }

with_conversion : (t : Text) (f : Field) (k : Conversion) → IsHead t f → IsHead t (record f { conversion = k })
with_conversion t f k h =
    record {
      flags = h.flags;
      width = h.width;
      precision = h.precision;
      modifier = h.modifier;
      in_order = h.in_order;
      are_flags = h.are_flags;
      is_width = h.is_width;
      is_precision = h.is_precision;
      is_modifier = h.is_modifier;
    }

-- what begins a field is not refused
not_refused : (t : Text) (p : FormatPart) (rest : Text) → Begins t → (directive t).part ≡ Some (p, rest) → ⊥
not_refused t p rest b e =
    let r = head_go t b.0 b.1 in
    let open_end : (directive t).part ≡ None = ap part_in (ap directive (sym (append-nil t)) ∙ r.2 []) in
    both (directive t).part open_end e
  where
    both : (o : Option (FormatPart × Text)) → o ≡ None → o ≡ Some (p, rest) → ⊥
    both o a b = cc

read_by : (h cs : Text) (f : Field) (c : ℕ) (o : Option Conversion) → conversion_of c ≡ o → IsHead h f → (directive (h ++ c ∷ []) ≡ part_or (converted f c o).part f [] (open_at (converted f c o).field))
    → ReadOf (h ++ c ∷ cs) (part_or (converted f c o).part f cs (part_read (converted f c o).stage (converted f c o).field cs))
read_by h cs f c None e i r = (h, refl, record { is_head = i; no_more = λ b. not_refused (h ++ c ∷ []) (part.NoConversion c) [] b (ap part_in r); no_letter = e })
read_by h cs f c (Some k) e i r =
    (h ++ c ∷ [], sym (append_assoc h (c ∷ []) cs), record { head = h; letter = c; in_order = refl; is_head = with_conversion h f k i; is_letter = e })

read_on : (s : FormatStage) (f : Field) (h cs : Text) (c : ℕ) (x : FormatStep) → next_of s f c ≡ x → Onward h f c x → IsHead h f → Goes stage.Flags no_field h s f
    → ((u : FormatStage) (g : Field) → At u (h ++ c ∷ []) g → Goes stage.Flags no_field (h ++ c ∷ []) u g → ReadOf ((h ++ c ∷ []) ++ cs) (part_read u g cs)) → ReadOf (h ++ c ∷ cs) (part_or x.part f cs (part_read x.stage x.field cs))
read_on s f h cs c _ e (more u g a) i k later =
    subst (λ t. ReadOf t (part_read u g cs)) (append_assoc h (c ∷ []) cs)
    (later u g a (λ rest. ap directive (append_assoc h (c ∷ []) rest) ∙ k (c ∷ rest) ∙ ap (λ (y : FormatStep). part_or y.part f rest (part_read y.stage y.field rest)) e))
read_on s f h cs c _ e last i k later =
    read_by h cs f c (conversion_of c) refl i (k (c ∷ []) ∙ ap (λ (y : FormatStep). part_or y.part f [] (open_at y.field)) e)

read_from : (s : FormatStage) (f : Field) (h t : Text) → At s h f → Goes stage.Flags no_field h s f → ReadOf (h ++ t) (part_read s f t)
read_from s f h [] a k = subst (λ t. IsHead t f) (sym (append-nil h)) (at_head s h f a)
read_from s f h (c ∷ cs) a k = read_on s f h cs c (next_of s f c) refl (onward s h f c a) (at_head s h f a) k (λ u g b l. read_from u g (h ++ c ∷ []) cs b l)

pub read_of : (t : Text) → ReadOf t (directive t)
read_of t = read_from stage.Flags no_field [] t at_start (λ rest. refl)

-- ---- the laws

pub field_is_read : FieldIsRead
field_is_read t rest f = (λ e. subst (ReadIs t (directive t).field) e (read_of t), λ h. ap part_in (ap directive h.1 ∙ field_read h.0 rest f h.2))

last_of : Text → Option ℕ
last_of [] = None
last_of (c ∷ []) = Some c
last_of (c ∷ d ∷ ds) = last_of (d ∷ ds)

last_is : (t : Text) (c : ℕ) → last_of (t ++ c ∷ []) ≡ Some c
unfolding last_of
last_is [] c = refl
last_is (b ∷ []) c = refl
last_is (b ∷ d ∷ ds) c = last_is (d ∷ ds) c

same_last : (s t : Text) (c d : ℕ) → s ++ c ∷ [] ≡ t ++ d ∷ [] → c ≡ d
same_last s t c d e = inside (sym (last_is s c) ∙ ap last_of e ∙ last_is t d)
  where
    inside : Some c ≡ Some d → c ≡ d
    inside p = cc

-- where the part that ends at c is no field, it is the refusal
refused_at : (head : Text) (f g : Field) (c : ℕ) (p : FormatPart) → NoLetter head f c → ReadIs (head ++ c ∷ []) g (Some (p, [])) → p ≡ part.NoConversion c
refused_at head f g c (part.Character d) n r = absurd r
refused_at head f g c (part.Field i) n r =
    let same : c ≡ r.2.letter = same_last head r.2.head c r.2.letter (r.1 ∙ append-nil r.0 ∙ r.2.in_order) in
    absurd (both (conversion_of c) n.no_letter (ap conversion_of same ∙ r.2.is_letter))
  where
    both : (o : Option Conversion) → o ≡ None → o ≡ Some i.conversion → ⊥
    both o a b = cc
refused_at head f g c (part.NoConversion d) n r = ap part.NoConversion (sym (same_last head r.0 c d r.1))

abbrev pub refused_with : Field → ℕ → Text → Reading
refused_with f c rest = record { part = Some (part.NoConversion c, rest); field = f }

refused_by : (head rest : Text) (f before behind : Field) (c : ℕ) (o : Option FormatPart) (later : Reading) → NoLetter head f c → ReadOf (head ++ c ∷ []) (part_or o before [] (open_at behind))
    → part_or o before rest later ≡ refused_with before c rest
refused_by head rest f before behind c None later n r = absurd (n.no_more (behind, r))
refused_by head rest f before behind c (Some p) later n r = ap (λ q. record { part = Some (q, rest); field = before }) (refused_at head f before c p n r)

pub refusal_read : (head rest : Text) (f : Field) (c : ℕ) → NoLetter head f c → directive (head ++ c ∷ rest) ≡ refused_with (record f { conversion = conversion.Percent }) c rest
refusal_read head rest f c n =
    let r = head_go head f n.is_head in
    let before : Field = record f { conversion = conversion.Percent } in
    let x : FormatStep = next_of r.0 before c in
    r.2 (c ∷ rest) ∙ refused_by head rest f before x.field c x.part (part_read x.stage x.field rest) n (subst (ReadOf (head ++ c ∷ [])) (r.2 (c ∷ [])) (read_of (head ++ c ∷ [])))

pub refusal_is_no_letter : RefusalIsNoLetter
refusal_is_no_letter t rest c = (
  λ e. let h = subst (ReadIs t (directive t).field) e (read_of t) in (h.0, (directive t).field, h.1, h.2),
  λ h. ap part_in (ap directive h.2 ∙ refusal_read h.0 rest h.1 c h.3),
)

pub beginning_read : (t : Text) (f : Field) → IsHead t f → directive t ≡ open_at (record f { conversion = conversion.Percent })
beginning_read t f h = let r = head_go t f h in ap directive (sym (append-nil t)) ∙ r.2 []

pub unended_is_beginning : UnendedIsBeginning
unended_is_beginning t = (λ e. ((directive t).field, subst (ReadIs t (directive t).field) e (read_of t)), λ b. ap part_in (beginning_read t b.0 b.1))

abbrev rest_of : Option (FormatPart × Text) → Text
rest_of None = []
rest_of (Some p) = p.1

abbrev field_of_part : FormatPart → Field
field_of_part (part.Character c) = no_field
field_of_part (part.Field f) = f
field_of_part (part.NoConversion c) = no_field

abbrev field_of : Option (FormatPart × Text) → Field
field_of None = no_field
field_of (Some p) = field_of_part p.0

same_reading : (f g : Field) (rest behind : Text) (r : Option (FormatPart × Text)) → r ≡ Some (part.Field f, rest) → r ≡ Some (part.Field g, behind) → (rest ≡ behind) × (f ≡ g)
same_reading f g rest behind r a b = (ap rest_of (sym a ∙ b), ap field_of (sym a ∙ b))

pub one_field : OneField
one_field d e rest behind f g j h i =
    let same = same_reading f g rest behind (directive (d ++ rest)).part (ap part_in (field_read d rest f h)) (ap part_in (ap directive j ∙ field_read e behind g i)) in
    (append_cancel_right d e rest (j ∙ ap (λ r. e ++ r) (sym same.0)), same.0, same.1)

directive_of : (t : Text) (f : Field) (r : Option (FormatPart × Text)) → ReadIs t f r → Directive t
directive_of t f None h = law.unended t (f, h)
directive_of t f (Some (part.Character c, rest)) h = absurd h
directive_of t f (Some (part.Field g, rest)) h = subst Directive (sym h.1) (law.field h.0 rest g h.2)
directive_of t f (Some (part.NoConversion c, rest)) h = subst Directive (sym h.1) (law.refused h.0 rest f c h.2)

pub field_or_fault : FieldOrFault
field_or_fault t = directive_of t (directive t).field (directive t).part (read_of t)
