-- set(n): its forms.
use Rattle.std.proofs.Common.{◌≡◌, ◌≢◌, List, [], ◌∷◌, length, get_or, Err, refl, sym, subst, arith}
use Rattle.tcl_chars.specs.Texts.{literal}
use Rattle.tcl_pages.specs.Texts.{Text}
use Rattle.tcl_meaning.specs.Asking.{done}
use Rattle.tcl_meaning.specs.Completions.{normal, wrong_words}
use Rattle.tcl_meaning.specs.Tasks.{Done}
use Rattle.tcl_meaning.specs.Value.{Has, Fails}
use Rattle.tcl_meaning.specs.Variables.{read, set}
use Rattle.tcl_meaning.specs.VariablePages.{set_page}
use Rattle.tcl_frames.specs.Standing.{Standing}
use Rattle.tcl_steps.proofs.Endings.{has_on, fails_on}
use Rattle.tcl_steps.specs.Comes.{Comes}
use Rattle.tcl_steps.specs.Ends.{Ends, EndsDone}
use Rattle.tcl_steps.specs.declared.stop.Stop.{Stop}
use Rattle.tcl_steps.specs.declared.stop.Stop.TheVariants as stop

pub set_reads : (ws : List Text) (f : Standing) (name t : Text) → length ws ≡ 1 → name ≡ get_or ws 0 [] → Comes (read name) f (Has t) f → Comes (set_page ws) f (Has (Done (normal t))) f
unfolding set_page
set_reads [] f name t h e k = absurd (omega arith)
set_reads (w ∷ []) f name t h e k = has_on (read w) (λ u. done (normal u)) f f t (subst (λ m. Comes (read m) f (Has t) f) e k)
set_reads (w ∷ v ∷ ws) f name t h e k = absurd (omega arith)

pub set_cant_read : (ws : List Text) (f : Standing) (name : Text) (s : Stop) → length ws ≡ 1 → name ≡ get_or ws 0 [] → Ends (read name) f (Err s) f → EndsDone (set_page ws) f (Err s) f
unfolding set_page
set_cant_read ws f name stop.Memory h e k = tt
set_cant_read [] f name (stop.Error c) h e k = absurd (omega arith)
set_cant_read (w ∷ []) f name (stop.Error c) h e k = fails_on (read w) (λ u. done (normal u)) f f c (subst (λ m. Comes (read m) f (Fails c) f) e k)
set_cant_read (w ∷ v ∷ ws) f name (stop.Error c) h e k = absurd (omega arith)

pub set_writes : (ws : List Text) (f g : Standing) (name t d : Text) → length ws ≡ 2 → name ≡ get_or ws 0 [] → t ≡ get_or ws 1 d → Comes (set name t) f (Has tt) g → Comes (set_page ws) f (Has (Done (normal t))) g
unfolding set_page
set_writes [] f g name t d h e ev k = absurd (omega arith)
set_writes (w ∷ []) f g name t d h e ev k = absurd (omega arith)
set_writes (w ∷ v ∷ []) f g name t d h e ev k =
    subst (λ u. Comes (set_page (w ∷ v ∷ [])) f (Has (Done (normal u))) g) (sym ev)
    (has_on (set w v) (λ u. done (normal v)) f g tt (subst (λ u. Comes (set w u) f (Has tt) g) ev (subst (λ m. Comes (set m t) f (Has tt) g) e k)))
set_writes (w ∷ v ∷ x ∷ ws) f g name t d h e ev k = absurd (omega arith)

pub set_cant_write : (ws : List Text) (f g : Standing) (name t d : Text) (s : Stop) → length ws ≡ 2 → name ≡ get_or ws 0 [] → t ≡ get_or ws 1 d → Ends (set name t) f (Err s) g → EndsDone (set_page ws) f (Err s) g
unfolding set_page
set_cant_write ws f g name t d stop.Memory h e ev k = tt
set_cant_write [] f g name t d (stop.Error c) h e ev k = absurd (omega arith)
set_cant_write (w ∷ []) f g name t d (stop.Error c) h e ev k = absurd (omega arith)
set_cant_write (w ∷ v ∷ []) f g name t d (stop.Error c) h e ev k = fails_on (set w v) (λ u. done (normal v)) f g c (subst (λ u. Comes (set w u) f (Fails c) g) ev (subst (λ m. Comes (set m t) f (Fails c) g) e k))
set_cant_write (w ∷ v ∷ x ∷ ws) f g name t d (stop.Error c) h e ev k = absurd (omega arith)

pub set_usage : (ws : List Text) (f : Standing) → length ws ≢ 1 → length ws ≢ 2 → Comes (set_page ws) f (Fails (wrong_words (literal "set varName ?newValue?"))) f
unfolding set_page
set_usage [] f h k = record { same = λ cs ch n. refl }
set_usage (w ∷ []) f h k = absurd (h refl)
set_usage (w ∷ v ∷ []) f h k = absurd (k refl)
set_usage (w ∷ v ∷ x ∷ ws) f h k = record { same = λ cs ch n. refl }
