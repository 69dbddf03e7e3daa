-- What changes leave of a value.
use Rattle.std.proofs.Common.{◌≡◌, List, [], ◌∷◌, ◌++◌, length, get_or, sym, ap, arith}
use Rattle.std.proofs.lemmas.List.{append-nil}
use Rattle.tcl_pages.specs.Texts.{Text}
use Rattle.tcl_pages.specs.Updates.{text_appended}

pub appended_one : (d t : Text) (ws : List Text) → length ws ≡ 1 → t ++ get_or ws 0 d ≡ text_appended t ws
appended_one d t [] h = absurd (omega arith)
appended_one d t (w ∷ []) h = ap (λ u. t ++ u) (sym (append-nil w))
appended_one d t (w ∷ v ∷ ws) h = absurd (omega arith)
