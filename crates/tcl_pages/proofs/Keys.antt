-- A dictionary has each key once, in its first place, with its last value.
use Rattle.std.proofs.Common.{◌≡◌, ◌≢◌, ℕ, zero, suc, ◌<◌, ◌≤◌, true, false, ◌&&◌, [], ◌∷◌, ◌++◌, length, sym, ap, ◌∙◌, subst, refl, arith, inl, inr}
use Rattle.std.specs.Prelude.{if◌then◌else◌}
use Rattle.std.proofs.lemmas.Bool.{cases_Bool, cond_both, cond-true, cond-false, eq-eqb, false≢true}
use Rattle.tcl_chars.proofs.Same.{text_is}
use Rattle.tcl_pages.specs.DictLaws.{NoKey, KeysAreDistinct, without, HasLast, IsDictionary, PairsAreDictionary, DictionaryIsDistinct}
use Rattle.tcl_pages.specs.DictLaws as law
use Rattle.tcl_pages.specs.Dictionaries.{Pairs, put_key, put_keys}
use Rattle.tcl_pages.specs.Texts.{Text, same_text}

-- ---- the last value

last_value : Text → Text → Pairs → Text
last_value key value [] = value
last_value key value (p ∷ ps) = last_value key (if same_text p.0 key then p.1 else value) ps

itself : (t : Text) → same_text t t ≡ true
itself [] = refl
itself (c ∷ cs) = ap (λ b. b && same_text cs cs) (eq-eqb c c refl) ∙ itself cs

another : (a b : Text) → a ≢ b → same_text a b ≡ false
another a b n = elim (cases_Bool (same_text a b)) [ inl y ↦ absurd (n (text_is a b y)) | inr f ↦ f ]

differs : (a b : Text) → same_text a b ≡ false → a ≢ b
differs a b f e = false≢true (sym f ∙ ap (λ t. same_text t b) e ∙ itself b)

turned : (a b : Text) → same_text a b ≡ false → same_text b a ≡ false
turned a b f = another b a (λ e. differs a b f (sym e))

none_later : (key value : Text) (ps : Pairs) → NoKey key ps → last_value key value ps ≡ value
unfolding last_value
none_later key value [] n = refl
none_later key value (p ∷ ps) n = ap (λ v. last_value key v ps) (cond-false _ _ _ (another p.0 key n.0)) ∙ none_later key value ps n.1

value_at_last : (key value first : Text) (front behind : Pairs) → NoKey key behind → last_value key first (front ++ (key, value) ∷ behind) ≡ value
unfolding last_value
value_at_last key value first [] behind n = ap (λ v. last_value key v behind) (cond-true _ _ _ (itself key)) ∙ none_later key value behind n
value_at_last key value first (p ∷ front) behind n = value_at_last key value (if same_text p.0 key then p.1 else first) front behind n

abbrev value_ahead : Pairs → Text
value_ahead [] = []
value_ahead (p ∷ ps) = p.1

abbrev pairs_behind : Pairs → Pairs
pairs_behind [] = []
pairs_behind (p ∷ ps) = ps

same_value : (key value first : Text) (ps front behind : Pairs) → (key, first) ∷ ps ≡ front ++ (key, value) ∷ behind → NoKey key behind → last_value key first ps ≡ value
unfolding last_value
same_value key value first ps [] behind e n =
    let is : first ≡ value = ap value_ahead e in
    let rest : ps ≡ behind = ap pairs_behind e in
    ap (last_value key first) rest ∙ none_later key first behind n ∙ is
same_value key value first ps (p ∷ front) behind e n =
    let rest : ps ≡ front ++ (key, value) ∷ behind = ap pairs_behind e in
    ap (last_value key first) rest ∙ value_at_last key value first front behind n

has_last : (key value : Text) (ps : Pairs) → HasLast key (last_value key value ps) ((key, value) ∷ ps)
unfolding last_value
has_last key value [] = record { front = []; behind = []; split = refl; last = tt }
has_last key value (p ∷ ps) = elim (cases_Bool (same_text p.0 key)) [
  | inl y ↦ subst (λ v. HasLast key (last_value key v ps) ((key, value) ∷ p ∷ ps)) (sym (cond-true _ _ _ y)) (behind_first (has_last key p.1 ps) (text_is p.0 key y))
  | inr f ↦ subst (λ v. HasLast key (last_value key v ps) ((key, value) ∷ p ∷ ps)) (sym (cond-false _ _ _ f)) (past (has_last key value ps) (differs p.0 key f))
]
  where
    behind_first : HasLast key (last_value key p.1 ps) ((key, p.1) ∷ ps) → p.0 ≡ key → HasLast key (last_value key p.1 ps) ((key, value) ∷ p ∷ ps)
    behind_first h e = record {
      front = (key, value) ∷ h.front;
      behind = h.behind;
      split = ap (λ k. (key, value) ∷ (k, p.1) ∷ ps) e ∙ ap (λ qs. (key, value) ∷ qs) h.split;
      last = h.last;
    }

    past_by : (v : Text) (front behind : Pairs) → (key, value) ∷ ps ≡ front ++ (key, v) ∷ behind → NoKey key behind → p.0 ≢ key → HasLast key v ((key, value) ∷ p ∷ ps)
    past_by v [] behind e n d =
        let is : value ≡ v = ap value_ahead e in
        let rest : ps ≡ behind = ap pairs_behind e in
        record { front = []; behind = p ∷ behind; split = ap (λ w. (key, w) ∷ p ∷ ps) is ∙ ap (λ qs. (key, v) ∷ p ∷ qs) rest; last = (d, n) }
    past_by v (q ∷ front) behind e n d =
        let rest : ps ≡ front ++ (key, v) ∷ behind = ap pairs_behind e in
        record { front = (key, value) ∷ p ∷ front; behind = behind; split = ap (λ qs. (key, value) ∷ p ∷ qs) rest; last = n }

    past : HasLast key (last_value key value ps) ((key, value) ∷ ps) → p.0 ≢ key → HasLast key (last_value key value ps) ((key, value) ∷ p ∷ ps)
    past h d = past_by _ h.front h.behind h.split h.last d

-- ---- the first key, and the others

first_key : (key value : Text) (found ps : Pairs) → put_keys ((key, value) ∷ found) ps ≡ (key, last_value key value ps) ∷ put_keys found (without key ps)
unfolding last_value
first_key key value found [] = refl
first_key key value found (p ∷ ps) = elim (cases_Bool (same_text key p.0)) [
  | inl y ↦
      let e : p.0 ≡ key = sym (text_is key p.0 y) in
      let same : same_text p.0 key ≡ true = ap (λ k. same_text k key) e ∙ itself key in
      ap (λ qs. put_keys qs ps) (cond-true _ _ _ y ∙ ap (λ k. (k, p.1) ∷ found) e) ∙ first_key key p.1 found ps
      ∙ sym (ap (λ v. (key, last_value key v ps) ∷ put_keys found (without key (p ∷ ps))) (cond-true _ _ _ same) ∙ ap (λ qs. (key, last_value key p.1 ps) ∷ put_keys found qs) (cond-true _ _ _ same))
  | inr f ↦
      let other : same_text p.0 key ≡ false = turned key p.0 f in
      ap (λ qs. put_keys qs ps) (cond-false _ _ _ f) ∙ first_key key value (put_key found p.0 p.1) ps
      ∙ sym (ap (λ v. (key, last_value key v ps) ∷ put_keys found (without key (p ∷ ps))) (cond-false _ _ _ other) ∙ ap (λ qs. (key, last_value key value ps) ∷ put_keys found qs) (cond-false _ _ _ other))
]

-- ---- the relation

said_of : (ps found : Pairs) → IsDictionary ps found → put_keys [] ps ≡ found
said_of _ _ law.nothing = refl
said_of _ _ (law.keyed key first value ps found h more) =
    first_key key first [] ps ∙ ap (λ v. (key, v) ∷ put_keys [] (without key ps)) (same_value key value first ps h.front h.behind h.split h.last) ∙ ap (λ qs. (key, value) ∷ qs) (said_of (without key ps) found more)

shorter : (key : Text) (ps : Pairs) → length (without key ps) ≤ length ps
shorter key [] = omega arith
shorter key (p ∷ ps) =
    cond_both (same_text p.0 key) _ _ (λ (qs : Pairs). length qs ≤ suc (length ps)) (λ _. omega (arith, shorter key ps)) (λ _. omega (arith, shorter key ps))

is_dictionary : (n : ℕ) (ps : Pairs) → length ps < n → IsDictionary ps (put_keys [] ps)
is_dictionary zero ps l = absurd (omega arith)
is_dictionary (suc n) [] l = law.nothing
is_dictionary (suc n) (p ∷ ps) l =
    subst (IsDictionary (p ∷ ps)) (sym (first_key p.0 p.1 [] ps))
    (law.keyed p.0 p.1 (last_value p.0 p.1 ps) ps (put_keys [] (without p.0 ps)) (has_last p.0 p.1 ps) (is_dictionary n (without p.0 ps) (omega (arith, shorter p.0 ps))))

dictionary_of : (ps : Pairs) → IsDictionary ps (put_keys [] ps)
dictionary_of ps = is_dictionary (suc (length ps)) ps (omega arith)

-- ---- no key twice

taken_out : (key : Text) (ps : Pairs) → NoKey key (without key ps)
taken_out key [] = tt
taken_out key (p ∷ ps) = cond_both (same_text p.0 key) _ _ (NoKey key) (λ _. taken_out key ps) (λ f. (differs p.0 key f, taken_out key ps))

none_without : (key other : Text) (ps : Pairs) → NoKey key ps → NoKey key (without other ps)
none_without key other [] n = tt
none_without key other (p ∷ ps) n = cond_both (same_text p.0 other) _ _ (NoKey key) (λ _. none_without key other ps n.1) (λ _. (n.0, none_without key other ps n.1))

none_found : (key : Text) (ps found : Pairs) → IsDictionary ps found → NoKey key ps → NoKey key found
none_found key _ _ law.nothing n = tt
none_found key _ _ (law.keyed other first value ps found h more) n = (n.0, none_found key (without other ps) found more (none_without key other ps n.1))

distinct : (ps found : Pairs) → IsDictionary ps found → KeysAreDistinct found
distinct _ _ law.nothing = tt
distinct _ _ (law.keyed key first value ps found h more) = (none_found key (without key ps) found more (taken_out key ps), distinct (without key ps) found more)

-- ---- the laws

pub pairs_are_dictionary : PairsAreDictionary
pairs_are_dictionary ps found = (λ e. subst (IsDictionary ps) e (dictionary_of ps), said_of ps found)

pub dictionary_is_distinct : DictionaryIsDistinct
dictionary_is_distinct ps = distinct ps (put_keys [] ps) (dictionary_of ps)
