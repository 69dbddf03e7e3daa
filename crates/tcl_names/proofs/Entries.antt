-- Lists of entries with `RcStr` keys, as finite maps from texts: what both kinds of maps by name rest on.
use Rattle.std.proofs.Common.{ℕ, List, [], ◌∷◌, ◌≡◌, Bool, true, false, cond, refl, sym, ap, ◌∙◌, Option, None, Some, T, ◌&&◌, subst, map as each}
use Rattle.std.specs.FinMap as map
use Rattle.std.specs.FinMap.{find, same_map, get-from_entries, get-insert, get-remove, slice_cmp-IsAntisymmetric, nat_cmp-IsAntisymmetric}
use Rattle.std.specs.FinMap.{get-from_sorted, entries-from_sorted}
use Rattle.std.specs.FinMap.Entries.{is_sorted, below_all}
use Rattle.std.specs.List.{AllByRecursion}
use Rattle.std.specs.List.Sorted.{IsStrictlySortedBy}
use Rattle.std.specs.declared.cmp.Ordering.TheVariants.{Less}
use Rattle.std.specs.Map.{keys_of, lookup, KeepsOthers, IsKeyTest, AreApart}
use Rattle.std.specs.Cmp.{eq_by_cmp_equiv}
use Rattle.std.specs.Ordering.{eq_by_cmp, is_eq, is_lt, nat_cmp}
use Rattle.std.specs.Option.{option_map}
use Rattle.std.specs.Cmp.Lexicographic.{slice_cmp, nat_list_cmp_total, bytes_decides}
use Rattle.std.specs.Str.{chars, IsUtf8}
use Rattle.std.proofs.lemmas.Str.{IsUtf8-string_bytes}
use Rattle.std.proofs.lemmas.Map.Text.{is_eq-slice_cmp}
use Rattle.std.specs.Rc.{rc_str_bytes}
use Rattle.std.specs.declared.rc.RcStr.{RcStr}
use Rattle.std.specs.declared.alloc.Global.{Global}
use Rattle.tcl_names.specs.Named.{Named, text_of, by_text}
use Rattle.tcl_chars.specs.Texts.{by_code_point}
use Rattle.tcl_chars.proofs.Order.{chars_order}

pub exact : map.IsAntisymmetric (slice_cmp nat_cmp)
exact = slice_cmp-IsAntisymmetric nat_cmp-IsAntisymmetric

pub IsUtf8-key : (k : RcStr Global) → IsUtf8 (rc_str_bytes k)
IsUtf8-key k = IsUtf8-string_bytes k.text.value

-- the keys stand in the order of their bytes
pub text_order : (x y : RcStr Global) → by_code_point (text_of x) (text_of y) ≡ slice_cmp nat_cmp (rc_str_bytes x) (rc_str_bytes y)
text_order x y = chars_order _ _ (IsUtf8-key x) (IsUtf8-key y)

-- whether two texts are the same
abbrev pub same : List ℕ → List ℕ → Bool
same = eq_by_cmp by_code_point

-- whether a key has the characters q
abbrev pub has : List ℕ → RcStr Global → Bool
has q k = same q (text_of k)

pub same_text : (q k : List ℕ) → same q k ≡ true → q ≡ k
same_text q k e = (bytes_decides q k).0 (sym (is_eq-slice_cmp q k) ∙ e)

-- to look for the characters of bs is to look for bs
pub at_key : (bs : List ℕ) → IsUtf8 bs → (k : RcStr Global) → has (chars bs) k ≡ is_eq (slice_cmp nat_cmp bs (rc_str_bytes k))
at_key bs u k = ap is_eq (chars_order bs (rc_str_bytes k) u (IsUtf8-key k))

at_others : {K X : Type 0} (eq : K → K → Bool) (test : K → Bool) (old new : List (K × X)) → KeepsOthers eq test old new → (other : K → Bool) → IsKeyTest eq other → AreApart test other → lookup other new ≡ lookup other old
unfolding KeepsOthers
at_others eq test old new h = h

module _ {X H : Type 0} (f : X → H) where
  abbrev of : List (RcStr Global × X) → Named H
  of es = map.from_entries (by_text f es)

  -- the names of entries are the characters of their keys
  pub names_of : (es : List (RcStr Global × X)) → each (λ e. e.0) (by_text f es) ≡ each text_of (keys_of es)
  names_of [] = refl
  names_of (e ∷ es) = ap (λ ts. text_of e.0 ∷ ts) (names_of es)

  find-by_text : (q : List ℕ) (es : List (RcStr Global × X)) → find (slice_cmp nat_cmp) q (by_text f es) ≡ option_map f (lookup (has q) es)
  find-by_text q [] = refl
  find-by_text q (e ∷ es) =
      elim (has q e.0) as (λ b. cond b (Some (f e.1)) (find (slice_cmp nat_cmp) q (by_text f es)) ≡ option_map f (cond b (Some e.1) (lookup (has q) es))) [
        | true ↦ refl
        | false ↦ find-by_text q es
      ]

  get-at : (es : List (RcStr Global × X)) (q : List ℕ) → map.get (of es) q ≡ option_map f (lookup (has q) es)
  get-at es q = get-from_entries nat_list_cmp_total (by_text f es) q ∙ find-by_text q es

  module _ (bs : List ℕ) (test : RcStr Global → Bool) (at : (k : RcStr Global) → has (chars bs) k ≡ test k) where
    -- a look-up by a test for the text bs
    pub get-where : (es : List (RcStr Global × X)) → map.get (of es) (chars bs) ≡ option_map f (lookup test es)
    get-where es = get-at es (chars bs) ∙ ap (option_map f) (λ i. lookup (λ k. at k i) es)

    module _ (eq : RcStr Global → RcStr Global → Bool) (alike : (x y : RcStr Global) → same (text_of x) (text_of y) ≡ eq x y) (es fs : List (RcStr Global × X)) where
      -- after a change at bs, every text finds what it should
      updates-where : (w : Option X) → lookup test fs ≡ w → KeepsOthers eq test es fs → (q : List ℕ) → map.get (of fs) q ≡ cond (same q (chars bs)) (option_map f w) (map.get (of es) q)
      updates-where w here others q =
          let ties = eq_by_cmp_equiv nat_list_cmp_total in
          elim (same q (chars bs)) as (λ b. same q (chars bs) ≡ b → map.get (of fs) q ≡ cond b (option_map f w) (map.get (of es) q)) [
            | true ↦ λ e. ap (λ t. map.get (of fs) t) (same_text q (chars bs) e) ∙ get-where fs ∙ ap (option_map f) here
            | false ↦ λ e. get-at fs q ∙ ap (option_map f) (at_others _ _ _ _ others (has q)
                (λ x y t. ties.congr q (text_of x) (text_of y) t ∙ alike x y)
                (λ k y. ties.symm q (text_of k) ∙ sym (ties.congr (chars bs) (text_of k) q (at k ∙ y)) ∙ ties.symm (chars bs) q ∙ e)) ∙ sym (get-at es q)
          ] refl

      -- to put a value among the entries is to put it into the finite map
      pub insert-where : (v : X) → lookup test fs ≡ Some v → KeepsOthers eq test es fs → of fs ≡ map.insert (of es) (chars bs) (f v)
      insert-where v here others = same_map nat_list_cmp_total exact _ _ (λ q. updates-where (Some v) here others q ∙ sym (get-insert nat_list_cmp_total (of es) (chars bs) (f v) q))

      -- and so is to take one out
      pub remove-where : lookup test fs ≡ None → KeepsOthers eq test es fs → of fs ≡ map.remove (of es) (chars bs)
      remove-where here others = same_map nat_list_cmp_total exact _ _ (λ q. updates-where None here others q ∙ sym (get-remove nat_list_cmp_total (of es) (chars bs) q))

both : (a b : Bool) → T a → T b → T (a && b)
both true b p q = q
both false b p q = p

module _ {H : Type 0} where
  below : (k : List ℕ) (es : List (List ℕ × H)) → AllByRecursion (λ y. by_code_point k y ≡ Less) (keys_of es) → T (below_all by_code_point k es)
  below k [] h = tt
  below k (e ∷ es) h = both _ _ (subst (λ o. T (is_lt o)) (sym h.0) tt) (below k es h.1)

  sorted : (es : List (List ℕ × H)) → IsStrictlySortedBy by_code_point (keys_of es) → T (is_sorted by_code_point es)
  unfolding IsStrictlySortedBy
  sorted [] h = tt
  sorted (e ∷ es) h = both _ _ (below e.0 es h.0) (sorted es h.1)

  -- a list of entries in order is its own map
  pub entries_in_order : (es : List (List ℕ × H)) → IsStrictlySortedBy by_code_point (keys_of es) → map.entries (map.from_entries {R = by_code_point} es) ≡ es
  entries_in_order es up =
      let h = sorted es up in
      ap map.entries (same_map nat_list_cmp_total exact (map.from_entries es) (map.from_sorted es) (λ q. get-from_entries nat_list_cmp_total es q ∙ sym (get-from_sorted by_code_point es q h)))
      ∙ entries-from_sorted by_code_point es h

pub same_value : {X : Type 0} (o : Option X) → option_map (λ v. v) o ≡ o
same_value None = refl
same_value (Some v) = refl

module _ {H : Type 0} where
  -- to put back what is there changes nothing
  pub insert_same : (m : Named H) (k : List ℕ) (v : H) → map.get m k ≡ Some v → map.insert m k v ≡ m
  insert_same m k v at = same_map nat_list_cmp_total exact _ _ (λ q. get-insert nat_list_cmp_total m k v q ∙ elim (same q k) as (λ b. same q k ≡ b → cond b (Some v) (map.get m q) ≡ map.get m q) [
    | true ↦ λ e. sym at ∙ ap (λ t. map.get m t) (sym (same_text q k e))
    | false ↦ λ e. refl
  ] refl)
