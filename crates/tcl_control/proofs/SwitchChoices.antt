-- The options that a switch(n) names.
use Rattle.std.proofs.Common.{◌≡◌, Bool, false, [], ◌∷◌, ◌++◌, Err, sym, ap, ◌∙◌, refl}
use Rattle.std.specs.Prelude.{codes, cond}
use Rattle.std.specs.Str.{chars}
use Rattle.tcl_lists.proofs.OptionLemmas.{said, shown, all_ascii, said_in_parts}
use Rattle.tcl_chars.specs.Messages.{about}
use Rattle.tcl_chars.specs.Texts.{literal, same_text}
use Rattle.tcl_meaning.specs.Shapes.{switch_option}
use Rattle.tcl_pages.specs.Texts.{Text}
use Rattle.tcl_pages.specs.Usage.{bad_option, choices}

three_choices : literal ": must be -exact, -glob, or --" ≡ literal ": must be " ++ choices (literal "-exact" ∷ literal "-glob" ∷ literal "--" ∷ [])
unfolding said shown all_ascii chars
three_choices = said_in_parts (codes ": must be ") (codes "-exact" ∷ codes ", " ∷ codes "-glob" ∷ codes ", " ∷ codes "or " ∷ codes "--" ∷ []) refl

two_tests : {A : Type 0} (a b : Bool) (x y z : A) → a ≡ false → b ≡ false → cond a x (cond b y z) ≡ z
two_tests a b x y z p q = rw (p, q) refl

pub no_option : (t m : Text) → same_text t (literal "-exact") ≡ false → same_text t (literal "-glob") ≡ false → m ≡ about (literal "bad option") t (literal ": must be -exact, -glob, or --") → switch_option t ≡ Err m
no_option t m p q e =
    two_tests _ _ _ _ (bad_option t (literal "-exact" ∷ literal "-glob" ∷ literal "--" ∷ [])) p q ∙ ap Err (sym (e ∙ ap (about (literal "bad option") t) three_choices))
