-- Variables by their names, once one of them was lent.
use Rattle.std.proofs.Common.{◌≡◌, ℕ, List, Some, Result, Ok, Err, OnErr, refl, sym, ap, ◌∙◌}
use Rattle.std.specs.FinMap as map
use Rattle.tcl_names.specs.Named.{Named}
use Rattle.tcl_names.proofs.Named.{insert_same}
use Rattle.tcl_pages.specs.Texts.{Text}
use Rattle.tcl_meaning.specs.declared.refusal.Refusal.{Refusal}
use Rattle.tcl_meaning.specs.Frames.{Variable, Variables, Part}
use Rattle.tcl_meaning.specs.Variables.{put_part}
use Rattle.tcl_frames.specs.Written.{stored_in, or_else, with_part, with_text}

-- a write that was refused left what was there
pub unwritten : {V A E : Type 0} (r : Result A E) (m : Named V) (k : List ℕ) (v w : V) → OnErr r (w ≡ v) → map.get m k ≡ Some v → OnErr r (map.insert m k w ≡ m)
unwritten {V} (Ok x) m k v w h e = tt
unwritten {V} (Err x) m k v w h e = ap (λ (x : V). map.insert m k x) h ∙ insert_same m k v e

by_answer : (m : Variables) (name : Text) (v : Variable) (r : Result Variable Refusal) → map.get m name ≡ Some v → map.insert m name (or_else v r) ≡ or_else m (stored_in m name r)
by_answer m name v (Ok u) got = refl
by_answer m name v (Err refusal) got = insert_same m name v got

-- a text that is left in a variable that was lent
pub lent_text : (m : Variables) (name : Text) (v : Variable) (part : Part) (t : Text) → map.get m name ≡ Some v → map.insert m name (with_part v part t) ≡ with_text m name part t
lent_text m name v part t got = by_answer m name v (put_part (Some v) part t) got ∙ ap (λ o. or_else m (stored_in m name (put_part o part t))) (sym got)
