-- What a text has left at a character is its end.
use Rattle.std.proofs.Common.{ℕ, Bool, [], ◌∷◌}
use Rattle.std.proofs.lemmas.Bool.{cond_both}
use Rattle.tcl_chars.specs.Place.{EndsWith}
use Rattle.tcl_chars.proofs.Ends.{ends_self, ends_more}
use Rattle.tcl_pages.specs.Texts.{Text}
use Rattle.tcl_glob.specs.Seek.{to_separator}

pub ends_there : (splits : ℕ → Bool) (t : Text) → EndsWith t (to_separator splits t)
ends_there splits [] = ends_self []
ends_there splits (c ∷ cs) = cond_both (splits c) _ _ (EndsWith (c ∷ cs)) (λ _. ends_self (c ∷ cs)) (λ _. ends_more c cs (to_separator splits cs) (ends_there splits cs))
