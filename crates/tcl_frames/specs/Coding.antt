-- How a proof tells places, variables and frames apart.
use Rattle.std.specs.Prelude.{◌≡◌, ℕ, List, Option, None, Some, ◌⊎◌, refl}
use Rattle.std.proofs.Common.{inl, inr}
use Rattle.std.specs.Coded.{Coded, code_by, coded_ℕ, coded_list, coded×, coded_option, coded⊎}
use Rattle.tcl_names.specs.Named.{Named, named_code}
use Rattle.tcl_pages.specs.Texts.{Text}
use Rattle.tcl_meaning.specs.Frames.{Part, whole, element, deeper, Spot, Variable, text, array, Variables, Frame}
use Rattle.tcl_frames.specs.Standing.{Standing}

abbrev text_code : Coded Text
text_code = coded_list coded_ℕ

-- ---- places

abbrev to_option : Part → Option (Option Text)
to_option whole = None
to_option (element i) = Some (Some i)
to_option deeper = Some None

abbrev of_option : Option (Option Text) → Part
of_option None = whole
of_option (Some None) = deeper
of_option (Some (Some i)) = element i

abbrev part_again : (p : Part) → of_option (to_option p) ≡ p
part_again whole = refl
part_again (element i) = refl
part_again deeper = refl

abbrev pub part_code : Coded Part
part_code = code_by (Option (Option Text)) (coded_option (coded_option text_code)) to_option of_option part_again

abbrev pub spot_code : Coded Spot
spot_code = code_by (ℕ × (Text × Part)) (coded× coded_ℕ (coded× text_code part_code)) (λ p. (p.frame, (p.name, p.part))) (λ p. record { frame = p.0; name = p.1.0; part = p.1.1 }) (λ _. refl)

-- ---- variables

abbrev to_sum : Variable → Text ⊎ Named Text
to_sum (text t) = inl t
to_sum (array m) = inr m

abbrev of_sum : Text ⊎ Named Text → Variable
of_sum (inl t) = text t
of_sum (inr m) = array m

abbrev variable_again : (v : Variable) → of_sum (to_sum v) ≡ v
variable_again (text t) = refl
variable_again (array m) = refl

abbrev pub variable_code : Coded Variable
variable_code = code_by (Text ⊎ Named Text) (coded⊎ text_code (named_code text_code)) to_sum of_sum variable_again

-- ---- frames

abbrev pub frame_code : Coded Frame
frame_code =
    code_by (ℕ × (ℕ × (Variables × Named Spot))) (coded× coded_ℕ (coded× coded_ℕ (coded× (named_code variable_code) (named_code spot_code)))) (λ f. (f.caller, (f.level, (f.variables, f.links))))
    (λ p. record { caller = p.0; level = p.1.0; variables = p.1.1.0; links = p.1.1.1 }) (λ _. refl)

abbrev pub standing_code : Coded Standing
standing_code = code_by (List Frame × ℕ) (coded× (coded_list frame_code) coded_ℕ) (λ f. (f.frames, f.active)) (λ p. record { frames = p.0; active = p.1 }) (λ _. refl)
