-- What a map's numbered places hold, after a look-up and after a change.
use Rattle.std.proofs.Common.{ℕ, ◌<◌, List, [], ◌∷◌, ◌++◌, ◌≡◌, true, sym, ap, subst, ◌∙◌, Option, None, Some, length, get_or}
use Rattle.std.proofs.Math.ListN.{set}
use Rattle.std.proofs.Math.Seq.{map-set_same}
use Rattle.std.proofs.lemmas.List.{length-map, get_or-map, map-set, map-append}
use Rattle.std.specs.FinMap as map
use Rattle.tcl_chars.specs.Texts.{same_text}
use Rattle.tcl_names.specs.declared.placed.Place.{Place}
use Rattle.tcl_names.specs.Named.{Named}
use Rattle.tcl_names.specs.Placed.{IsApart, number_of, with_place, placed}
use Rattle.tcl_names.specs.Places.{names_in, values_in}
use Rattle.tcl_names.proofs.Apart.{apart_at, apart_more, placed_more}
use Rattle.tcl_names.proofs.Places.{number_within, get_in_place, get_aside, placed_in, placed_aside}

module _ {H : Type 0} (ps : List (Place H)) where
  pub as_many : length (values_in ps) ≡ length (names_in ps)
  as_many = length-map ps (λ (p : Place H). p.value) ∙ sym (length-map ps (λ (p : Place H). p.name))

  -- a place of a name is there
  pub place_low : (q : List ℕ) (k : ℕ) → number_of (names_in ps) q ≡ Some k → k < length ps
  place_low q k at =
      let low : k < length (names_in ps) = number_within (names_in ps) q k at in
      subst (λ n. k < n) (length-map ps (λ (p : Place H). p.name)) low

  -- a place whose name is looked for is that name's
  pub place_of : (q : List ℕ) (k : ℕ) (p : Place H) → IsApart (names_in ps) → k < length ps → p ≡ get_or ps k p → same_text q (p.name) ≡ true → number_of (names_in ps) q ≡ Some k
  place_of q k p apart low is e =
      let name : get_or (names_in ps) k [] ≡ p.name = get_or-map (λ (p : Place H). p.name) ps k p [] low ∙ ap (λ (x : Place H). x.name) (sym is) in
      apart_at (names_in ps) q k apart (subst (λ n. k < n) (sym (length-map ps (λ (p : Place H). p.name))) low) (ap (same_text q) name ∙ e)

  -- a place whose value is given anew keeps its name
  module _ (k : ℕ) (p : Place H) (is : p ≡ get_or ps k p) (o : Option H) where
    names_stay : names_in (set ps k (record { name = p.name; value = o })) ≡ names_in ps
    names_stay = map-set_same (λ (p : Place H). p.name) ps k (record { name = p.name; value = o }) p (ap (λ (x : Place H). x.name) is)

    pub apart_stays : IsApart (names_in ps) → IsApart (names_in (set ps k (record { name = p.name; value = o })))
    apart_stays apart = subst IsApart (sym names_stay) apart

    pub whole_set : (m : Named H) (q : List ℕ) {whole : Named H} → number_of (names_in ps) q ≡ Some k → placed (names_in ps) (values_in ps) m ≡ whole
        → placed (names_in (set ps k (record { name = p.name; value = o }))) (values_in (set ps k (record { name = p.name; value = o }))) m ≡ with_place q o whole
    whole_set m q at view =
        ap (λ ns. placed ns (values_in (set ps k (record { name = p.name; value = o }))) m) names_stay
        ∙ ap (λ os. placed (names_in ps) os m) (map-set (λ (p : Place H). p.value) ps k (record { name = p.name; value = o }))
        ∙ placed_in (names_in ps) (values_in ps) m q as_many k o at ∙ ap (with_place q o) view

  -- a place behind the others
  module _ (n q : List ℕ) (is : n ≡ q) (none : number_of (names_in ps) q ≡ None) (o : Option H) where
    names_more : names_in (ps ++ record { name = n; value = o } ∷ []) ≡ names_in ps ++ q ∷ []
    names_more = map-append (λ (p : Place H). p.name) ps (record { name = n; value = o } ∷ []) ∙ ap (λ t. names_in ps ++ t ∷ []) is

    pub apart_pushed : IsApart (names_in ps) → IsApart (names_in (ps ++ record { name = n; value = o } ∷ []))
    apart_pushed apart = subst IsApart (sym names_more) (apart_more (names_in ps) q apart none)

  module _ (m : Named H) {whole : Named H} (view : placed (names_in ps) (values_in ps) m ≡ whole) (q : List ℕ) where
    pub value_there : (k : ℕ) (p : Place H) → number_of (names_in ps) q ≡ Some k → p ≡ get_or ps k p → p.value ≡ map.get whole q
    value_there k p at is =
        ap (λ (x : Place H). x.value) is ∙ sym (get_or-map (λ (p : Place H). p.value) ps k p None (place_low q k at)) ∙ sym (get_in_place (names_in ps) (values_in ps) m q as_many k at)
        ∙ ap (λ m. map.get m q) view

    pub value_aside : number_of (names_in ps) q ≡ None → map.get m q ≡ map.get whole q
    value_aside none = sym (get_aside (names_in ps) (values_in ps) m q as_many none) ∙ ap (λ m. map.get m q) view

    pub whole_aside : (o : Option H) → number_of (names_in ps) q ≡ None → placed (names_in ps) (values_in ps) (with_place q o m) ≡ with_place q o whole
    whole_aside o none = placed_aside (names_in ps) (values_in ps) m q as_many o none ∙ ap (with_place q o) view

    pub whole_more : (n : List ℕ) (v : H) → n ≡ q → number_of (names_in ps) q ≡ None
        → placed (names_in (ps ++ record { name = n; value = Some v } ∷ [])) (values_in (ps ++ record { name = n; value = Some v } ∷ [])) m ≡ map.insert whole q v
    whole_more n v is none =
        ap (λ ns. placed ns (values_in (ps ++ record { name = n; value = Some v } ∷ [])) m) (names_more n q is none (Some v))
        ∙ ap (λ os. placed (names_in ps ++ q ∷ []) os m) (map-append (λ (p : Place H). p.value) ps (record { name = n; value = Some v } ∷ []))
        ∙ placed_more (names_in ps) (values_in ps) m q v as_many none ∙ ap (λ m. map.insert m q v) view
