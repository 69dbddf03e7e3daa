-- A text is mapped in one pass from the left.
use Rattle.std.proofs.Common.{◌≡◌, ◌≢◌, ℕ, zero, suc, ◌-◌, ◌<◌, ◌≤◌, true, List, [], ◌∷◌, ◌++◌, length, Option, Some, None, sym, ap, ◌∙◌, subst, refl, arith, inl, inr, length-append}
use Rattle.std.specs.Prelude.{MatchOption}
use Rattle.std.proofs.lemmas.Bool.{cases_Bool, cond-true, cond-false, false≢true}
use Rattle.tcl_pages.specs.StringLaws.{KeyBegins, NoKeyBegins, Maps, MappedIsMap, OneMap}
use Rattle.tcl_pages.specs.StringLaws as law
use Rattle.tcl_pages.specs.Strings.{key_begins, pair_for, said_for, key_rest, mapped}
use Rattle.tcl_pages.specs.Texts.{Text}
use Rattle.tcl_pages.proofs.FirstPlace.{begun, begins}

-- ---- a key begins a text

key_tells : (key t : Text) → key_begins key t ≡ true → KeyBegins key t
key_tells [] t h = absurd (false≢true h)
key_tells (k ∷ ks) t h = let b = begun (k ∷ ks) t h in record { rest = b.rest; joined = b.joined; some = λ e. cc }

begins_key : (key rest : Text) → key ≢ [] → key_begins key (key ++ rest) ≡ true
begins_key [] rest n = absurd (n refl)
begins_key (k ∷ ks) rest n = begins (k ∷ ks) rest

key_is_told : (key t : Text) → KeyBegins key t → key_begins key t ≡ true
key_is_told key t b = ap (key_begins key) b.joined ∙ begins_key key b.rest b.some

-- ---- the first pair

none_for : (ps : List (Text × Text)) (t : Text) → NoKeyBegins ps t → pair_for ps t ≡ None
none_for [] t h = refl
none_for (p ∷ ps) t h = elim (cases_Bool (key_begins p.0 t)) [
  | inl y ↦ absurd (h.0 (key_tells p.0 t y))
  | inr n ↦ cond-false _ _ _ n ∙ none_for ps t h.1
]

first_for : (front behind : List (Text × Text)) (p : Text × Text) (t : Text) → NoKeyBegins front t → key_begins p.0 t ≡ true → pair_for (front ++ p ∷ behind) t ≡ Some p
first_for [] behind p t h y = cond-true _ _ _ y
first_for (q ∷ front) behind p t h y = elim (cases_Bool (key_begins q.0 t)) [
  | inl z ↦ absurd (h.0 (key_tells q.0 t z))
  | inr n ↦ cond-false _ _ _ n ∙ first_for front behind p t h.1 y
]

record FirstPair (ps : List (Text × Text)) (t : Text) (p : Text × Text) : Type 0 where
  front : List (Text × Text)
  behind : List (Text × Text)
  split : ps ≡ front ++ p ∷ behind
  none : NoKeyBegins front t
  begins_it : KeyBegins p.0 t

abbrev PairOf : List (Text × Text) → Text → Option (Text × Text) → Type 0
PairOf ps t o = MatchOption o (NoKeyBegins ps t) (FirstPair ps t)

pair_more : (p : Text × Text) (ps : List (Text × Text)) (t : Text) (o : Option (Text × Text)) → (KeyBegins p.0 t → ⊥) → PairOf ps t o → PairOf (p ∷ ps) t o
pair_more p ps t None h r = (h, r)
pair_more p ps t (Some q) h r = record { front = p ∷ r.front; behind = r.behind; split = ap (λ qs. p ∷ qs) r.split; none = (h, r.none); begins_it = r.begins_it }

pair_is : (ps : List (Text × Text)) (t : Text) → PairOf ps t (pair_for ps t)
pair_is [] t = tt
pair_is (p ∷ ps) t = elim (cases_Bool (key_begins p.0 t)) [
  | inl y ↦ subst (PairOf (p ∷ ps) t) (sym (cond-true _ _ _ y)) (record { front = []; behind = ps; split = refl; none = tt; begins_it = key_tells p.0 t y })
  | inr n ↦ subst (PairOf (p ∷ ps) t) (sym (cond-false _ _ _ n)) (pair_more p ps t (pair_for ps t) (λ b. false≢true (sym n ∙ key_is_told p.0 t b)) (pair_is ps t))
]

-- ---- one step

passed_over : (ps : List (Text × Text)) (xs rest : Text) → mapped ps (length xs) (xs ++ rest) ≡ mapped ps 0 rest
passed_over ps [] rest = refl
passed_over ps (x ∷ xs) rest = passed_over ps xs rest

-- what a pair says at a character
abbrev with_pair : List (Text × Text) → ℕ → Text → Option (Text × Text) → Text
with_pair ps c cs o = said_for o c ++ mapped ps (key_rest o) cs

at_value : (ps : List (Text × Text)) (key value rest : Text) → key ≢ [] → pair_for ps (key ++ rest) ≡ Some (key, value) → mapped ps 0 (key ++ rest) ≡ value ++ mapped ps 0 rest
at_value ps [] value rest n e = absurd (n refl)
at_value ps (k ∷ ks) value rest n e =
    let size : length (k ∷ ks) - 1 ≡ length ks = omega arith in
    ap (with_pair ps k (ks ++ rest)) e ∙ ap (λ i. value ++ mapped ps i (ks ++ rest)) size ∙ ap (λ u. value ++ u) (passed_over ps ks rest)

-- ---- what is related is answered

said_by : (ps : List (Text × Text)) (t said : Text) → Maps ps t said → mapped ps 0 t ≡ said
said_by ps _ _ law.nothing = refl
said_by ps _ _ (law.stays c cs said n m) = ap (with_pair ps c cs) (none_for ps (c ∷ cs) n) ∙ ap (λ u. c ∷ u) (said_by ps cs said m)
said_by ps _ _ (law.value front behind key new rest said e n k m) =
    at_value ps key new rest k (ap (λ qs. pair_for qs (key ++ rest)) e ∙ first_for front behind (key, new) (key ++ rest) n (begins_key key rest k)) ∙ ap (λ u. new ++ u) (said_by ps rest said m)

-- ---- what is answered is related

has_size : (t : Text) → t ≢ [] → 0 < length t
has_size [] n = absurd (n refl)
has_size (c ∷ cs) n = omega arith

maps_at : (ps : List (Text × Text)) (c : ℕ) (cs : Text) (o : Option (Text × Text)) → PairOf ps (c ∷ cs) o → pair_for ps (c ∷ cs) ≡ o → ((rest : Text) → length rest ≤ length cs → Maps ps rest (mapped ps 0 rest))
    → Maps ps (c ∷ cs) (mapped ps 0 (c ∷ cs))
maps_at ps c cs None h e later = subst (Maps ps (c ∷ cs)) (sym (ap (with_pair ps c cs) e)) (law.stays c cs (mapped ps 0 cs) h (later cs (omega arith)))
maps_at ps c cs (Some p) h e later =
    let b = h.begins_it in
    let pair : pair_for ps (p.0 ++ b.rest) ≡ Some (p.0, p.1) = ap (pair_for ps) (sym b.joined) ∙ e in
    let shorter : length b.rest ≤ length cs = omega (arith, ap length b.joined, length-append p.0 b.rest, has_size p.0 b.some) in
    subst (λ t. Maps ps t (mapped ps 0 t)) (sym b.joined)
    (subst (Maps ps (p.0 ++ b.rest)) (sym (at_value ps p.0 p.1 b.rest b.some pair))
    (law.value h.front h.behind p.0 p.1 b.rest (mapped ps 0 b.rest) h.split (subst (NoKeyBegins h.front) b.joined h.none) b.some (later b.rest shorter)))

maps_below : (n : ℕ) (ps : List (Text × Text)) (t : Text) → length t < n → Maps ps t (mapped ps 0 t)
maps_below zero ps t l = absurd (omega arith)
maps_below (suc n) ps [] l = law.nothing
maps_below (suc n) ps (c ∷ cs) l = maps_at ps c cs (pair_for ps (c ∷ cs)) (pair_is ps (c ∷ cs)) refl (λ rest s. maps_below n ps rest (omega arith))

-- ---- the laws

pub mapped_is_map : MappedIsMap
mapped_is_map ps t said = (λ e. subst (Maps ps t) e (maps_below (suc (length t)) ps t (omega arith)), said_by ps t said)

pub one_map : OneMap
one_map ps t a b h k = sym (said_by ps t a h) ∙ said_by ps t b k
