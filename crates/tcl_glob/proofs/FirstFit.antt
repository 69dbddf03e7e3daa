-- The first fit is enough.
use Rattle.std.proofs.Common.{◌≡◌, ◌≢◌, ℕ, ◌≤◌, Bool, true, false, ◌&&◌, ◌||◌, List, [], ◌∷◌, ◌++◌, length, sym, ap, ◌∙◌, subst, refl, arith, append_assoc, inl, inr}
use Rattle.std.proofs.lemmas.Bool.{and_parts, eq-eqb, eqb-true, false≢true}
use Rattle.tcl_chars.specs.Characters.{star}
use Rattle.tcl_chars.specs.Place.{begins}
use Rattle.tcl_pages.specs.Glob.{One, takes, first_part, some_rest, glob}
use Rattle.tcl_pages.proofs.Glob.{part_shorter, no_pattern, at_star, no_text, text_left, at_part, found_rest, same_truth}
use Rattle.tcl_glob.specs.Glob.{Taken, AtEnd, Fit, FirstFit}
use Rattle.tcl_glob.specs.Glob as parts
use Rattle.std.proofs.Math.Bool.{or-true}

pub kept : (ps t qs u : List ℕ) → Taken ps t qs u → glob ps t ≡ glob qs u
kept _ _ _ _ (parts.none qs u) = refl
kept _ _ _ _ (parts.one p c ps t qs u n h later) = at_part p c ps t n ∙ ap (λ b. b && glob (first_part p ps).1 t) h ∙ kept (first_part p ps).1 t qs u later

taken_shorter : (ps t qs u : List ℕ) → Taken ps t qs u → length qs ≤ length ps
taken_shorter _ _ _ _ (parts.none qs u) = omega arith
taken_shorter _ _ _ _ (parts.one p c ps t qs u n h later) = omega (arith, taken_shorter (first_part p ps).1 t qs u later, part_shorter p ps)

taken_then : (ps t qs u rs v : List ℕ) → Taken ps t qs u → Taken qs u rs v → Taken ps t rs v
taken_then _ _ _ _ rs v (parts.none qs u) k = k
taken_then _ _ _ _ rs v (parts.one p c ps t qs u n h later) k = parts.one p c ps t rs v n h (taken_then (first_part p ps).1 t qs u rs v later k)

-- one part more
taken_more : (ps t qs u : List ℕ) (p c : ℕ) → p ≢ star → takes (first_part p qs).0 c ≡ true → Taken ps t (p ∷ qs) (c ∷ u) → Taken ps t (first_part p qs).1 u
taken_more ps t qs u p c n h k = taken_then ps t (p ∷ qs) (c ∷ u) (first_part p qs).1 u k (parts.one p c qs u (first_part p qs).1 u n h (parts.none _ _))

-- where the pattern qs goes on with the part that begins with p, and the text u with c
pub record Next (qs u behind after next : List ℕ) (p c : ℕ) (part : One) : Type 0 where
  pub pattern : qs ≡ p ∷ behind
  pub text : u ≡ c ∷ after
  pub no_star : p ≢ star
  pub is_part : (part, next) ≡ first_part p behind

pub taken_on : (ps t qs u behind after next : List ℕ) (p c : ℕ) (part : One) → Next qs u behind after next p c part → takes part c ≡ true → Taken ps t qs u → Taken ps t next after
taken_on ps t qs u behind after next p c part n h k =
    let at : Taken ps t (p ∷ behind) (c ∷ after) = subst (λ v. Taken ps t (p ∷ behind) v) n.text (subst (λ q. Taken ps t q u) n.pattern k) in
    let same : takes (first_part p behind).0 c ≡ true = sym (ap (λ (x : One × List ℕ). takes x.0 c) n.is_part) ∙ h in
    subst (λ (x : One × List ℕ). Taken ps t x.1 after) (sym n.is_part) (taken_more ps t behind after p c n.no_star same at)

-- ---- a `*` takes more as well

some_further : (test : List ℕ → Bool) (front rest : List ℕ) → some_rest test rest ≡ true → some_rest test (front ++ rest) ≡ true
some_further test [] rest h = h
some_further test (c ∷ front) rest h = ap (λ b. test (c ∷ (front ++ rest)) || b) (some_further test front rest h) ∙ or-true (test (c ∷ (front ++ rest)))

some_here : (test : List ℕ → Bool) (t : List ℕ) → test t ≡ true → some_rest test t ≡ true
some_here test [] h = h
some_here test (c ∷ cs) h = ap (λ b. b || some_rest test cs) h

star_further : (qs front rest : List ℕ) → begins star qs ≡ true → glob qs rest ≡ true → glob qs (front ++ rest) ≡ true
star_further [] front rest b h = absurd (false≢true b)
star_further (q ∷ qs) front rest b h =
    let e = eqb-true q star b in
    at_star q qs (front ++ rest) e ∙ some_further (glob qs) front rest (sym (at_star q qs rest e) ∙ h)

-- ---- a later match is one of what the first fit leaves

record Behind (t rest : List ℕ) : Type 0 where
  front : List ℕ
  joined : t ≡ front ++ rest

one_behind : (c d : ℕ) (t front rest : List ℕ) → c ∷ t ≡ front ++ d ∷ rest → Behind t rest
one_behind c d t [] rest e = record { front = []; joined = cc }
one_behind c d t (x ∷ front) rest e = let k : t ≡ front ++ d ∷ rest = cc in record { front = front ++ d ∷ []; joined = k ∙ sym (append_assoc front (d ∷ []) rest) }

reached : (ps t qs u : List ℕ) → Taken ps t qs u → begins star qs ≡ true → (front rest : List ℕ) → t ≡ front ++ rest → glob ps rest ≡ true → glob qs u ≡ true
reached _ _ _ _ (parts.none qs u) b front rest e h = ap (glob qs) e ∙ star_further qs front rest b h
reached _ _ _ _ (parts.one p c ps t qs u n k later) b front [] e h = absurd (false≢true (sym (no_text p ps n) ∙ h))
reached _ _ _ _ (parts.one p c ps t qs u n k later) b front (d ∷ rest) e h =
    let s = one_behind c d t front rest e in
    let both = and_parts _ _ (sym (at_part p d ps rest n) ∙ h) in
    reached (first_part p ps).1 t qs u later b s.front rest s.joined both.1

later_match : (ps t qs u : List ℕ) → Fit ps t qs u → some_rest (glob ps) t ≡ true → glob qs u ≡ true
later_match ps t qs u f h =
    let r = found_rest (glob ps) t h in
    elim f.at_end [
      | inl none ↦ rw (none.0, none.1) no_pattern
      | inr b ↦ reached ps t qs u f.taken b r.front r.rest r.joined r.passes
    ]

pub fit_first : (ps t qs u : List ℕ) → Fit ps t qs u → FirstFit ps t qs u
fit_first ps t qs u f = record {
  same = same_truth _ _ (later_match ps t qs u f) (λ h. some_here (glob ps) t (kept ps t qs u f.taken ∙ h));
  at_end = f.at_end;
  shorter = taken_shorter ps t qs u f.taken;
}

-- the first fit of a text, at a place in front of which there is none
pub first_of : (ps whole t qs u : List ℕ) → some_rest (glob ps) t ≡ some_rest (glob ps) whole → Fit ps t qs u → FirstFit ps whole qs u
first_of ps whole t qs u e f = let first = fit_first ps t qs u f in record { same = sym e ∙ first.same; at_end = first.at_end; shorter = first.shorter }

-- ---- the exits of a fit

pub fails_here : (ps t qs u behind after next : List ℕ) (p c : ℕ) (part : One) → Next qs u behind after next p c part → takes part c ≡ false → Taken ps t qs u → glob ps t ≡ false
fails_here ps t qs u behind after next p c part n h k =
    let differs : takes (first_part p behind).0 c ≡ false = sym (ap (λ (x : One × List ℕ). takes x.0 c) n.is_part) ∙ h in
    kept ps t qs u k ∙ ap (λ q. glob q u) n.pattern ∙ ap (glob (p ∷ behind)) n.text ∙ at_part p c behind after n.no_star ∙ ap (λ b. b && glob (first_part p behind).1 after) differs

pub fails_at_end : (ps t qs u behind : List ℕ) (p : ℕ) → qs ≡ p ∷ behind → u ≡ [] → p ≢ star → Taken ps t qs u → glob ps t ≡ false
fails_at_end ps t qs u behind p e f n k = kept ps t qs u k ∙ ap (λ q. glob q u) e ∙ ap (glob (p ∷ behind)) f ∙ no_text p behind n

pub fails_behind : (ps t qs u after : List ℕ) (c : ℕ) → qs ≡ [] → u ≡ c ∷ after → Taken ps t qs u → glob ps t ≡ false
fails_behind ps t qs u after c e f k = kept ps t qs u k ∙ ap (λ q. glob q u) e ∙ ap (glob []) f ∙ text_left c after

pub stops_at_end : (ps t qs u : List ℕ) → qs ≡ [] → u ≡ [] → Taken ps t qs u → Fit ps t qs u
stops_at_end ps t qs u e f k = record { taken = k; at_end = inl (e, f) }

pub stops_at_star : (ps t qs u behind : List ℕ) (p : ℕ) → qs ≡ p ∷ behind → p ≡ star → Taken ps t qs u → Fit ps t qs u
stops_at_star ps t qs u behind p e f k = record { taken = k; at_end = inr (ap (begins star) e ∙ eq-eqb p star f) }

-- ---- from `*` to `*`

pub star_goes_on : (qs u behind : List ℕ) (q : ℕ) → qs ≡ q ∷ behind → AtEnd qs u → glob qs u ≡ some_rest (glob behind) u
star_goes_on qs u behind q e (inl none) = let never : [] ≡ q ∷ behind = sym none.0 ∙ e in absurd cc
star_goes_on qs u behind q e (inr b) = ap (λ ps. glob ps u) e ∙ at_star q behind u (eqb-true q star (sym (ap (begins star) e) ∙ b))

pub all_matched : (qs u : List ℕ) → qs ≡ [] → AtEnd qs u → glob qs u ≡ true
all_matched qs u e (inl none) = ap (λ ps. glob ps u) none.0 ∙ ap (glob []) none.1 ∙ no_pattern
all_matched qs u e (inr b) = absurd (false≢true (sym (ap (begins star) e) ∙ b))
