-- What is lent where a name leads is what the name stands for.
use Rattle.std.proofs.Common.{◌≡◌, Option, Some, None, Ok, Err, sym, ap, ◌∙◌}
use Rattle.tcl_names.specs.Named.{Named}
use Rattle.tcl_pages.specs.Texts.{Text}
use Rattle.tcl_meaning.specs.declared.refusal.Refusal.{Refusal}
use Rattle.tcl_meaning.specs.declared.refusal.Refusal.TheVariants.{NoSuch}
use Rattle.tcl_meaning.specs.Arrays.{whole_array}
use Rattle.tcl_meaning.specs.Frames.{Variable, text, array, Part}
use Rattle.tcl_meaning.specs.Variables.{get_part}
use Rattle.tcl_frames.specs.Seen.{seen_as, seen_part}

module _ (v : Option Variable) (j : Part) where
  pub seen_array : (m : Named Text) → whole_array v j ≡ Some m → Some (array m) ≡ seen_part v j
  seen_array m e = ap (λ o. seen_as o (get_part NoSuch v j)) (sym e)

  pub seen_text : (t : Text) → whole_array v j ≡ None → get_part NoSuch v j ≡ Ok t → Some (text t) ≡ seen_part v j
  seen_text t e h = ap (λ r. seen_as None r) (sym h) ∙ ap (λ o. seen_as o (get_part NoSuch v j)) (sym e)

  pub seen_nothing : (refusal : Refusal) → whole_array v j ≡ None → get_part NoSuch v j ≡ Err refusal → None ≡ seen_part v j
  seen_nothing refusal e h = ap (λ r. seen_as None r) (sym h) ∙ ap (λ o. seen_as o (get_part NoSuch v j)) (sym e)
