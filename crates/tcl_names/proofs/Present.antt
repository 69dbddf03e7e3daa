-- The names of a map with numbered places, put into a set.
use Rattle.std.proofs.Common.{ℕ, List, [], ◌∷◌, ◌≡◌, Bool, true, false, cond, refl, sym, ap, ◌∙◌, Option, None, Some, Result, Ok, Err, OnOk, length, ◌+◌, ◌&&◌, ◌||◌, map as each}
use Rattle.std.proofs.lemmas.Map.Text.{is_eq-slice_cmp}
use Rattle.std.specs.Cmp.Lexicographic.{nat_list_cmp_total}
use Rattle.std.specs.FinMap as map
use Rattle.std.specs.FinMap.{same_map, get-insert, contains_key-keys}
use Rattle.std.specs.List.{list_any}
use Rattle.std.specs.Option.{option_map, is_some}
use Rattle.tcl_names.specs.Named.{Named}
use Rattle.tcl_names.specs.Placed.{number_of, placed, with_present, with_names}
use Rattle.tcl_names.proofs.Entries.{exact, same}
use Rattle.tcl_names.proofs.Entries as entries
use Rattle.tcl_names.proofs.Places.{there, get-placed}

abbrev Names : Type 0
Names = Named (Unit {0})

-- a set with a name more, and a set with names more, at a name that is looked for
none_more : (p : Bool) (o : Option (Unit {0})) → cond (p && false) (Some tt) o ≡ o
none_more true o = refl
none_more false o = refl

kept : (p a : Bool) (o : Option (Unit {0})) → cond (p && a) (Some tt) o ≡ cond (p && (false || a)) (Some tt) o
kept p true o = refl
kept p false o = refl

taken : (p a : Bool) (o : Option (Unit {0})) → cond (p && a) (Some tt) (cond p (Some tt) o) ≡ cond (p && (true || a)) (Some tt) o
taken true true o = refl
taken true false o = refl
taken false a o = refl

either : (b a : Bool) (o : Option (Unit {0})) → cond a (Some tt) (cond b (Some tt) o) ≡ cond (b || a) (Some tt) o
either true true o = refl
either true false o = refl
either false a o = refl

module _ {H : Type 0} (m : Named H) where
  -- one name
  one : (set : Names) (k q : List ℕ) (b p : Bool) → same q k ≡ b → is_some (map.get m k) ≡ p → map.get (cond p (map.insert set k tt) set) q ≡ cond (b && p) (Some tt) (map.get set q)
  one set k q b true e g = get-insert nat_list_cmp_total set k tt q ∙ ap (λ c. cond c (Some tt) (map.get set q)) e ∙ alone b (map.get set q)
    where
      alone : (b : Bool) (o : Option (Unit {0})) → cond b (Some tt) o ≡ cond (b && true) (Some tt) o
      alone true o = refl
      alone false o = refl
  one set k q b false e g = sym (none_more b (map.get set q))

  pub get-with_present : (ks : List (List ℕ)) (set : Names) (q : List ℕ) → map.get (with_present m ks set) q ≡ cond (is_some (map.get m q) && list_any (same q) ks) (Some tt) (map.get set q)
  get-with_present [] set q = sym (none_more (is_some (map.get m q)) (map.get set q))
  get-with_present (k ∷ ks) set q =
      let p = is_some (map.get m q) in
      let a = list_any (same q) ks in
      get-with_present ks (cond (is_some (map.get m k)) (map.insert set k tt) set) q
      ∙ elim (same q k) as (λ b. same q k ≡ b → cond (p && a) (Some tt) (map.get (cond (is_some (map.get m k)) (map.insert set k tt) set) q) ≡ cond (p && (b || a)) (Some tt) (map.get set q)) [
        | true ↦ λ e. ap (cond (p && a) (Some tt)) (one set k q true (is_some (map.get m k)) e refl ∙ ap (λ t. cond (is_some (map.get m t)) (Some tt) (map.get set q)) (sym (entries.same_text q k e))) ∙ taken p a (map.get set q)
        | false ↦ λ e. ap (cond (p && a) (Some tt)) (one set k q false (is_some (map.get m k)) e refl) ∙ kept p a (map.get set q)
      ] refl

-- names that are put in one after another
get-with_names : (es : List (List ℕ × Unit {0})) (set : Names) (q : List ℕ) → map.get (with_names set es) q ≡ cond (list_any (same q) (each (λ e. e.0) es)) (Some tt) (map.get set q)
get-with_names [] set q = refl
get-with_names (e ∷ es) set q =
    get-with_names es (map.insert set e.0 e.1) q ∙ ap (cond (list_any (same q) (each (λ e. e.0) es)) (Some tt)) (get-insert nat_list_cmp_total set e.0 e.1 q)
    ∙ either (same q e.0) (list_any (same q) (each (λ e. e.0) es)) (map.get set q)

keys_kept : {H : Type 0} (es : List (List ℕ × H)) → each (λ e. e.0) (each {B = List ℕ × Unit {0}} (λ e. (e.0, tt)) es) ≡ each (λ e. e.0) es
keys_kept [] = refl
keys_kept (e ∷ es) = ap (λ l. e.0 ∷ l) (keys_kept es)

-- a name with a place is one of the names
among : (ns : List (List ℕ)) (q : List ℕ) (k : ℕ) → number_of ns q ≡ Some k → list_any (same q) ns ≡ true
among [] q k e = absurd cc
among (n ∷ ns) q k e = by (same q n) (number_of ns q) refl (ap (λ b. cond b (Some 0) (option_map (λ j. j + 1) (number_of ns q))) (is_eq-slice_cmp q n) ∙ e) (λ j at. among ns q j at)
  where
    by : (b : Bool) (i : Option ℕ) → number_of ns q ≡ i → cond b (Some 0) (option_map (λ j. j + 1) i) ≡ Some k → ((j : ℕ) → number_of ns q ≡ Some j → list_any (same q) ns ≡ true) → (b || list_any (same q) ns) ≡ true
    by true i at h below = refl
    by false None at h below = absurd cc
    by false (Some j) at h below = below j at

module _ {H : Type 0} where
  -- the names with places first and the others then are all names
  all_present : (ns : List (List ℕ)) (os : List (Option H)) (m : Named H) (set : Names) → length os ≡ length ns → with_present (placed ns os m) (map.keys m) (with_present (placed ns os m) ns set) ≡ with_names set (each (λ e. (e.0, tt)) (map.entries (placed ns os m)))
  all_present ns os m set e = same_map nat_list_cmp_total exact _ _ (λ q.
      let whole = placed ns os m in
      let p = is_some (map.get whole q) in
      get-with_present whole (map.keys m) (with_present whole ns set) q ∙ ap (cond (p && list_any (same q) (map.keys m)) (Some tt)) (get-with_present whole ns set q)
      ∙ ap (λ x. cond (p && x) (Some tt) (cond (p && list_any (same q) ns) (Some tt) (map.get set q))) (sym (contains_key-keys m q))
      ∙ by q (number_of ns q) refl (map.get m q) (is_some (map.get whole q)) (map.get set q) (ap is_some (get-placed ns os m q e))
      ∙ sym (get-with_names (each (λ e. (e.0, tt)) (map.entries whole)) set q ∙ ap (λ l. cond (list_any (same q) l) (Some tt) (map.get set q)) (keys_kept (map.entries whole)) ∙ ap (λ b. cond b (Some tt) (map.get set q)) (sym (contains_key-keys whole q))))
    where
      aside : (x a : Bool) (o : Option (Unit {0})) → cond (x && x) (Some tt) (cond (x && a) (Some tt) o) ≡ cond x (Some tt) o
      aside true a o = refl
      aside false a o = refl

      inside : (p x : Bool) (o : Option (Unit {0})) → cond (p && x) (Some tt) (cond (p && true) (Some tt) o) ≡ cond p (Some tt) o
      inside true true o = refl
      inside true false o = refl
      inside false x o = refl

      by : (q : List ℕ) (i : Option ℕ) → number_of ns q ≡ i → (o : Option H) (p : Bool) (s : Option (Unit {0})) → p ≡ is_some (there (number_of ns q) os o) → cond (p && is_some o) (Some tt) (cond (p && list_any (same q) ns) (Some tt) s) ≡ cond p (Some tt) s
      by q None at o p s h =
          let none : p ≡ is_some o = h ∙ ap (λ i. is_some (there i os o)) at in
          ap (λ x. cond (x && is_some o) (Some tt) (cond (x && list_any (same q) ns) (Some tt) s)) none ∙ aside (is_some o) (list_any (same q) ns) s ∙ ap (λ x. cond x (Some tt) s) (sym none)
      by q (Some k) at o p s h = ap (λ a. cond (p && is_some o) (Some tt) (cond (p && a) (Some tt) s)) (among ns q k at) ∙ inside p (is_some o) s

  -- both steps, when they succeed
  pub names_added : {A E : Type 0} (r : Result A E) (ns ks : List (List ℕ)) (os : List (Option H)) (m whole : Named H) (set first new : Names) → length os ≡ length ns → placed ns os m ≡ whole → ks ≡ ns → first ≡ with_present whole ks set → OnOk r (new ≡ with_present whole (map.keys m) first)
      → OnOk r (new ≡ with_names set (each (λ e. (e.0, tt)) (map.entries whole)))
  names_added (Err x) ns ks os m whole set first new e w k f h = tt
  names_added (Ok x) ns ks os m whole set first new e w k f h =
      h ∙ ap (with_present whole (map.keys m)) (f ∙ ap (λ l. with_present whole l set) k) ∙ ap (λ t. with_present t (map.keys m) (with_present t ns set)) (sym w) ∙ all_present ns os m set e ∙ ap (λ t. with_names set (each (λ e. (e.0, tt)) (map.entries t))) w
