-- Literal words.
use Rattle.std.proofs.Common.{◌≡◌, ℕ, zero, suc, ◌+◌, ◌<◌, ◌≤◌, List, [], ◌∷◌, ◌++◌, length, get_or, drop, map, Option, Some, None, refl, sym, ap, ◌∙◌, subst, append_assoc, append-nil, arith}
use Rattle.std.specs.Prelude.{IfSome, option_map}
use Rattle.tcl_words.specs.Parts.{Part, text, escape, var, elem_, bracket, Stretch, Shape}
use Rattle.tcl_pages.specs.Texts.{Text}
use Rattle.tcl_chars.specs.declared.numbers.Dialect.{Dialect}
use Rattle.tcl_meaning.specs.Effects.{Gives, on_got, exec}
use Rattle.tcl_meaning.specs.Script.{Run}
use Rattle.tcl_meaning.specs.State.{State}
use Rattle.tcl_meaning.specs.Substitution.{pieces_text}
use Rattle.tcl_meaning.specs.Value.{Has, ◌>>=◌, on_value, give}
use Rattle.tcl_meaning.proofs.Runs.{exec_bind}
use Rattle.tcl_meaning.proofs.ScriptRules.{drop_here}
use Rattle.tcl_compile.specs.Fragments.{Plain}
use Rattle.tcl_compile.specs.Inlining.{Says, AllSay}
use Rattle.tcl_compile.specs.Literals.{spelled, IsLiteral, AllLiteral}
use Rattle.tcl_compile.proofs.Emits.{drop_end}

-- what holds with something in front
pub some_with : {A B : Type 0} (f : A → B) (P : A → Type 0) (Q : B → Type 0) (r : Option A) → ((a : A) → P a → Q (f a)) → IfSome r P → IfSome (option_map f r) Q
some_with f P Q None h k = tt
some_with f P Q (Some a) h k = h a k

-- of this text
pub of_some : {A : Type 0} (P : A → Type 0) (r : Option A) (a : A) → r ≡ Some a → IfSome r P → P a
of_some P r a e h = subst (λ o. IfSome o P) e h

-- ---- what literal words say

module _ (dialect : Dialect) (d : ℕ) (s : State) where
  abbrev Said : List Part → Text → Type 0
  Said ps t = exec (Run dialect) (pieces_text d ps) s ≡ Gives (Has t) s

  said_behind : (front : Text) (ps : List Part) (t : Text) → Said ps t → exec (Run dialect) (pieces_text d ps >>= λ more. give (front ++ more)) s ≡ Gives (Has (front ++ t)) s
  said_behind front ps t h = exec_bind (Run dialect) (pieces_text d ps) (on_value (λ more. give (front ++ more))) s ∙ ap (λ g. on_got g (λ v u. exec (Run dialect) (on_value (λ more. give (front ++ more)) v) u)) h

  pieces_say : (ps : List Part) → IfSome (spelled ps) (Said ps)
  pieces_say [] = refl
  pieces_say (text x ∷ ps) = some_with (λ t. x.text ++ t) (Said ps) (Said (text x ∷ ps)) (spelled ps) (λ t h. said_behind x.text ps t h) (pieces_say ps)
  pieces_say (escape x c ∷ ps) = some_with (λ t. c ∷ t) (Said ps) (Said (escape x c ∷ ps)) (spelled ps) (λ t h. said_behind (c ∷ []) ps t h) (pieces_say ps)
  pieces_say (var x name ∷ ps) = tt
  pieces_say (elem_ x name index ∷ ps) = tt
  pieces_say (bracket x script ∷ ps) = tt

pub says : (w : Shape) (t : Text) → IsLiteral w t → Says w t
says w t h = record { one = h.0; text = λ dialect d s. of_some (λ u. exec (Run dialect) (pieces_text d w.pieces) s ≡ Gives (Has u) s) (spelled w.pieces) t h.1 (pieces_say dialect d s w.pieces) }

pub all_say : (ws : List Shape) (ts : List Text) → AllLiteral ws ts → AllSay ws ts
all_say [] [] h = tt
all_say [] (t ∷ ts) h = absurd h
all_say (w ∷ ws) [] h = absurd h
all_say (w ∷ ws) (t ∷ ts) h = (says w t h.0, all_say ws ts h.1)

pub all_plain : (ws : List Shape) (ts : List Text) → AllLiteral ws ts → Plain ws
all_plain [] [] h = tt
all_plain [] (t ∷ ts) h = absurd h
all_plain (w ∷ ws) [] h = absurd h
all_plain (w ∷ ws) (t ∷ ts) h = (h.0.0, all_plain ws ts h.1)

-- ---- words of one stretch

pub none_spelled : {A : Type 0} (f : A → Part) (xs : List A) (t : Text) → length xs ≡ 0 → t ≡ [] → spelled (map f xs) ≡ Some t
none_spelled f [] t e h = ap Some (sym h)
none_spelled f (x ∷ xs) t e h = absurd cc

-- ---- pieces, one after another

-- behind this text the pieces that are left spell what all do
abbrev pub Spells : List Part → Text → List Part → Type 0
Spells all front ps = option_map (λ t. front ++ t) (spelled ps) ≡ spelled all

pub spells_start : (ps : List Part) (front : Text) → front ≡ [] → Spells ps front ps
spells_start ps front e = go (spelled ps)
  where
    go : (r : Option Text) → option_map (λ t. front ++ t) r ≡ r
    go None = refl
    go (Some t) = ap (λ u. Some (u ++ t)) e

more_in_front : (front u : Text) (r : Option Text) → option_map (λ t. (front ++ u) ++ t) r ≡ option_map (λ t. front ++ t) (option_map (λ t. u ++ t) r)
more_in_front front u None = refl
more_in_front front u (Some t) = ap Some (append_assoc front u t)

module _ (all : List Part) (i : ℕ) (p : Part) (front : Text) (lt : i < length all) (at : p ≡ get_or all i p) (h : Spells all front (drop i all)) where
  behind : (q : Part) → p ≡ q → option_map (λ t. front ++ t) (spelled (q ∷ drop (i + 1) all)) ≡ spelled all
  behind q e = ap (λ ps. option_map (λ t. front ++ t) (spelled ps)) (sym (drop_here all i p lt at ∙ ap (λ z. z ∷ drop (i + 1) all) e)) ∙ h

  pub spells_text : (x : Stretch) → p ≡ text x → Spells all (front ++ x.text) (drop (i + 1) all)
  spells_text x e = more_in_front front x.text (spelled (drop (i + 1) all)) ∙ behind (text x) e

  pub spells_escape : (x : Stretch) (c : ℕ) → p ≡ escape x c → Spells all (front ++ c ∷ []) (drop (i + 1) all)
  spells_escape x c e = more_in_front front (c ∷ []) (spelled (drop (i + 1) all)) ∙ behind (escape x c) e

  pub spells_none : spelled (p ∷ drop (i + 1) all) ≡ None → None ≡ spelled all
  spells_none e = sym (ap (option_map (λ t. front ++ t)) e) ∙ behind p refl

-- ---- words, one after another

-- the words that are left have these texts behind those that were read
abbrev pub Texts : ℕ → List Shape → List Text → Type 0
Texts i ws us = (ts : List Text) → AllLiteral (drop i ws) ts → AllLiteral ws (us ++ ts)

pub texts_next : (ws : List Shape) (i : ℕ) (w : Shape) (t : Text) (us : List Text) → i < length ws → w ≡ get_or ws i w → IsLiteral w t → Texts i ws us → Texts (i + 1) ws (us ++ t ∷ [])
texts_next ws i w t us lt e is h ts k = subst (AllLiteral ws) (sym (append_assoc us (t ∷ []) ts)) (h (t ∷ ts) (subst (λ vs. AllLiteral vs (t ∷ ts)) (sym (drop_here ws i w lt e)) (is, k)))

pub texts_end : (ws : List Shape) (i : ℕ) (us : List Text) → length ws ≤ i → Texts i ws us → AllLiteral ws us
texts_end ws i us le h = subst (AllLiteral ws) (append-nil us) (h [] (subst (λ vs. AllLiteral vs []) (sym (drop_end ws i le)) tt))

-- each of literal words is literal
pub literal_at : (ws : List Shape) (ts : List Text) (i : ℕ) (w : Shape) → AllLiteral ws ts → i < length ws → w ≡ get_or ws i w → (t : Text) × IsLiteral w t
literal_at [] ts i w h lt e = absurd (omega arith)
literal_at (v ∷ ws) [] i w h lt e = absurd h
literal_at (v ∷ ws) (t ∷ ts) zero w h lt e = (t, subst (λ (x : Shape). IsLiteral x t) (sym e) h.0)
literal_at (v ∷ ws) (t ∷ ts) (suc i) w h lt e = literal_at ws ts i w h.1 (omega arith) e
