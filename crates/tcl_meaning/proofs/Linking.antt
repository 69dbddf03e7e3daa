-- A link is refused and nothing changes, or it is made to a place that is not its own.
use Rattle.std.proofs.Common.{◌≡◌, Bool, true, false, refl, Some, None}
use Rattle.std.specs.Prelude.{◌||◌, if◌then◌else◌}
use Rattle.tcl_pages.specs.Texts.{Text}
use Rattle.tcl_meaning.specs.declared.refusal.LinkRefusal.{LinkRefusal}
use Rattle.tcl_meaning.specs.Frames.{Spot}
use Rattle.tcl_meaning.specs.Links.{is_own, is_variable, Linked, link_to}
use Rattle.tcl_meaning.specs.Names.{Name, is_element}
use Rattle.tcl_meaning.specs.State.{Store, with_link}

abbrev among : (a b c : Bool) (x y z : LinkRefusal) (s t : Store) → Linked
among a b c x y z s t = if a then (Some x, s) else if b then (Some y, s) else if c then (Some z, s) else (None, t)

by_tests : (P : Store → Type 0) (a b c : Bool) (x y z : LinkRefusal) (s t : Store) → P s → (b ≡ false → P t) → P (among a b c x y z s t).1
by_tests P true b c x y z s t h k = h
by_tests P false true c x y z s t h k = h
by_tests P false false true x y z s t h k = h
by_tests P false false false x y z s t h k = k refl

pub link_is : (P : Store → Type 0) (s : Store) (local : Text) (n : Name) (target : Spot) → P s → (is_own s local target ≡ false → P (with_link local target s)) → P (link_to s local n target).1
link_is P s local n target h k = by_tests P (n.global || is_element n.part) (is_own s local target) (is_variable s local) _ _ _ s (with_link local target s) h k
