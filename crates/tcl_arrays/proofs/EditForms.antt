-- What an edit of an array is, by the texts that it is made of.
use Rattle.std.proofs.Common.{◌≡◌, Bor, List, map as each, Option, Some, None, Result, Ok, Err, refl, ap, ◌∙◌}
use Rattle.std.specs.declared.alloc.Global.{Global}
use Rattle.std.specs.declared.rc.RcStr.{RcStr}
use Rattle.tcl_arrays.proofs.SetLemmas.{put_into}
use Rattle.tcl_arrays.proofs.UnsetLemmas.{taken_from, lose_is}
use Rattle.tcl_chars.specs.Texts.{text_of}
use Rattle.tcl_frames.specs.Edits.{edit_part, edit_change}
use Rattle.tcl_frames.specs.declared.edit.Edit.TheVariants as edit
use Rattle.tcl_meaning.specs.Arrays.{Elements, array_of, spot_named}
use Rattle.tcl_meaning.specs.Frames.{Variable, text, array, Part, whole, element, deeper}
use Rattle.tcl_meaning.specs.State.{Store, Change}
use Rattle.tcl_meaning.specs.Variables.{stored, variable_at}
use Rattle.tcl_meaning.specs.declared.refusal.Refusal.{Refusal}
use Rattle.tcl_pages.specs.Texts.{Text}
use Rattle.tcl_values.specs.Kept.{Kept, texts}

removal : (b : Bor (List (RcStr Global))) (v : Option Variable) (part : Part) → edit_part (edit.Remove b) v part ≡ taken_from (each text_of b.now) v part
removal b None whole = refl
removal b (Some (array m)) whole = refl
removal b (Some (text t)) whole = refl
removal b None (element i) = refl
removal b (Some (array m)) (element i) = refl
removal b (Some (text t)) (element i) = refl
removal b None deeper = refl
removal b (Some (array m)) deeper = refl
removal b (Some (text t)) deeper = refl

filling : (b : Bor (List Kept)) (v : Option Variable) (part : Part) → edit_part (edit.Put b) v part ≡ put_into (texts b.now) v part
filling b None whole = refl
filling b (Some (array m)) whole = refl
filling b (Some (text t)) whole = refl
filling b None (element i) = refl
filling b (Some (array m)) (element i) = refl
filling b (Some (text t)) (element i) = refl
filling b None deeper = refl
filling b (Some (array m)) deeper = refl
filling b (Some (text t)) deeper = refl

pub remove_is : (s : Store) (name : Text) (b : Bor (List (RcStr Global))) → edit_change s name (edit.Remove b) ≡ stored (spot_named s name) (taken_from (each text_of b.now) (variable_at s (spot_named s name)) (spot_named s name).part)
remove_is s name b = ap (stored (spot_named s name)) (removal b (variable_at s (spot_named s name)) (spot_named s name).part)

pub fill_is : (s : Store) (name : Text) (b : Bor (List Kept)) → edit_change s name (edit.Put b) ≡ stored (spot_named s name) (put_into (texts b.now) (variable_at s (spot_named s name)) (spot_named s name).part)
fill_is s name b = ap (stored (spot_named s name)) (filling b (variable_at s (spot_named s name)) (spot_named s name).part)

pub none_refuses : (s : Store) (name : Text) (m : Elements) (b : Bor (List (RcStr Global))) (refusal : Refusal) → array_of s name ≡ Some m → edit_change s name (edit.Remove b) ≡ Err refusal → ⊥
none_refuses s name m b refusal h k = apart (edit_change s name (edit.Remove b)) _ refusal (remove_is s name b ∙ lose_is s name m (each text_of b.now) h) k
  where
    apart : (r : Result Change Refusal) (ch : Change) (refusal : Refusal) → r ≡ Ok ch → r ≡ Err refusal → ⊥
    apart r ch refusal e f = cc
