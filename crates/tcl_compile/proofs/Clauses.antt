-- The clauses of an `if`, read from its words.
use Rattle.std.proofs.Common.{◌≡◌, ℕ, ◌-◌, ◌≤◌, true, false, List, [], ◌∷◌, ◌++◌, length, get_or, drop, take, map, Option, Some, None, refl, sym, ap, ◌∙◌, subst, arith, append_assoc, length-drop}
use Rattle.std.specs.Prelude.{IfSome, if◌then◌else◌}
use Rattle.std.proofs.lemmas.List.{take_all}
use Rattle.tcl_chars.specs.Texts.{literal}
use Rattle.tcl_chars.proofs.Ends.{if_cond}
use Rattle.tcl_pages.specs.Texts.{Text}
use Rattle.tcl_meaning.specs.Shapes.{is_word, with_clause, last_body, at_condition, behind_condition, at_body, behind_body, if_shape}
use Rattle.tcl_meaning.specs.Tasks.{Others}
use Rattle.tcl_compile.specs.declared.inlining.Joint.TheVariants as joint
use Rattle.tcl_compile.specs.Forms.{HasClause, IsJoint, ClausesAreShort, OtherwiseIsShort}
use Rattle.tcl_compile.specs.Within.{TextsAreShort}

abbrev pub others : List (Text × Text) → Option Text → Others
others cs o = record { clauses = cs; otherwise = o }

-- ---- what stands behind a clause

ended : (c body : Text) → is_word (literal "then") body ≡ false → if_shape (c ∷ body ∷ []) ≡ Some (others ((c, body) ∷ []) None)
ended c body e = ap (λ b. if b then at_body c [] else behind_body c body []) e

gone_on : (c body w : Text) (ws : List Text) (o : Others) → is_word (literal "then") body ≡ false → is_word (literal "elseif") w ≡ true → if_shape ws ≡ Some o → if_shape (c ∷ body ∷ w ∷ ws) ≡ Some (others ((c, body) ∷ o.clauses) o.otherwise)
gone_on c body w ws o e f g =
    ap (λ b. if b then at_body c (w ∷ ws) else behind_body c body (w ∷ ws)) e
    ∙ ap (λ b. if b then with_clause c body (at_condition ws) else if is_word (literal "else") w then last_body c body ws else last_body c body (w ∷ ws)) f
    ∙ ap (with_clause c body) g

elsed : (c body w t : Text) → is_word (literal "then") body ≡ false → is_word (literal "elseif") w ≡ false → is_word (literal "else") w ≡ true → if_shape (c ∷ body ∷ w ∷ t ∷ []) ≡ Some (others ((c, body) ∷ []) (Some t))
elsed c body w t e f g =
    ap (λ b. if b then at_body c (w ∷ t ∷ []) else behind_body c body (w ∷ t ∷ [])) e
    ∙ ap (λ b. if b then with_clause c body (at_condition (t ∷ [])) else if is_word (literal "else") w then last_body c body (t ∷ []) else last_body c body (w ∷ t ∷ [])) f
    ∙ ap (λ b. if b then last_body c body (t ∷ []) else last_body c body (w ∷ t ∷ [])) g

-- ---- clauses in front

-- behind these clauses the words that are left are the others of the whole
abbrev pub Behind : List Text → List Text → List (Text × Text) → Type 0
Behind ts rest cs = (o : Others) → if_shape rest ≡ Some o → if_shape ts ≡ Some (others (cs ++ o.clauses) o.otherwise)

pub behind_start : (ts : List Text) → Behind ts ts []
behind_start ts o e = e

pub behind_next : (ts rest : List Text) (cs : List (Text × Text)) (c body w : Text) (ws : List Text) → rest ≡ c ∷ body ∷ w ∷ ws → HasClause rest → is_word (literal "elseif") w ≡ true → Behind ts rest cs → Behind ts ws (cs ++ (c, body) ∷ [])
behind_next ts rest cs c body w ws is has f h o e =
    let then_no : is_word (literal "then") body ≡ false = subst HasClause is has in
    h (others ((c, body) ∷ o.clauses) o.otherwise) (ap if_shape is ∙ gone_on c body w ws o then_no f e)
    ∙ ap (λ l. Some (others l o.otherwise)) (sym (append_assoc cs ((c, body) ∷ []) o.clauses))

pub behind_end : (ts rest : List Text) (cs : List (Text × Text)) (c body : Text) → rest ≡ c ∷ body ∷ [] → HasClause rest → Behind ts rest cs → if_shape ts ≡ Some (others (cs ++ (c, body) ∷ []) None)
behind_end ts rest cs c body is has h =
    let then_no : is_word (literal "then") body ≡ false = subst HasClause is has in
    h (others ((c, body) ∷ []) None) (ap if_shape is ∙ ended c body then_no)

pub behind_else : (ts rest : List Text) (cs : List (Text × Text)) (c body w t : Text) → rest ≡ c ∷ body ∷ w ∷ t ∷ [] → HasClause rest → is_word (literal "elseif") w ≡ false → is_word (literal "else") w ≡ true → Behind ts rest cs
    → if_shape ts ≡ Some (others (cs ++ (c, body) ∷ []) (Some t))
behind_else ts rest cs c body w t is has f g h =
    let then_no : is_word (literal "then") body ≡ false = subst HasClause is has in
    h (others ((c, body) ∷ []) (Some t)) (ap if_shape is ∙ elsed c body w t then_no f g)

-- ---- texts of at most n characters

abbrev OthersAreShort : ℕ → Others → Type 0
OthersAreShort n o = ClausesAreShort n o.clauses × OtherwiseIsShort n o.otherwise

abbrev ShapeIsShort : ℕ → Option Others → Type 0
ShapeIsShort n r = IfSome r (OthersAreShort n)

clause_short : (n : ℕ) (c body : Text) (r : Option Others) → length c ≤ n → length body ≤ n → ShapeIsShort n r → ShapeIsShort n (with_clause c body r)
clause_short n c body None hc hb h = tt
clause_short n c body (Some o) hc hb h = ((hc, hb, h.0), h.1)

last_short : (n : ℕ) (c body : Text) (ts : List Text) → length c ≤ n → length body ≤ n → TextsAreShort n ts → ShapeIsShort n (last_body c body ts)
last_short n c body [] hc hb h = tt
last_short n c body (t ∷ []) hc hb h = ((hc, hb, tt), h.0)
last_short n c body (t ∷ u ∷ ts) hc hb h = tt

mutual
  condition_short : (n : ℕ) (ts : List Text) → TextsAreShort n ts → ShapeIsShort n (at_condition ts)
  condition_short n [] h = tt
  condition_short n (c ∷ ts) h = behind_condition_short n c ts h.0 h.1

  behind_condition_short : (n : ℕ) (c : Text) (ts : List Text) → length c ≤ n → TextsAreShort n ts → ShapeIsShort n (behind_condition c ts)
  behind_condition_short n c [] hc h = tt
  behind_condition_short n c (w ∷ ts) hc h = if_cond (ShapeIsShort n) (is_word (literal "then") w) _ _ (body_short n c ts hc h.1) (behind_body_short n c w ts hc h.0 h.1)

  body_short : (n : ℕ) (c : Text) (ts : List Text) → length c ≤ n → TextsAreShort n ts → ShapeIsShort n (at_body c ts)
  body_short n c [] hc h = tt
  body_short n c (body ∷ ts) hc h = behind_body_short n c body ts hc h.0 h.1

  behind_body_short : (n : ℕ) (c body : Text) (ts : List Text) → length c ≤ n → length body ≤ n → TextsAreShort n ts → ShapeIsShort n (behind_body c body ts)
  behind_body_short n c body [] hc hb h = ((hc, hb, tt), tt)
  behind_body_short n c body (w ∷ ts) hc hb h =
      if_cond (ShapeIsShort n) (is_word (literal "elseif") w) _ _ (clause_short n c body (at_condition ts) hc hb (condition_short n ts h.1))
      (if_cond (ShapeIsShort n) (is_word (literal "else") w) _ _ (last_short n c body ts hc hb h.1) (last_short n c body (w ∷ ts) hc hb h))

pub shape_short : (n : ℕ) (ts : List Text) (o : Others) → TextsAreShort n ts → if_shape ts ≡ Some o → ClausesAreShort n o.clauses × OtherwiseIsShort n o.otherwise
shape_short n ts o h e = subst (ShapeIsShort n) e (condition_short n ts h)

-- ---- a turn over the words that are left

pub rest_is : {A : Type 0} (n : ℕ) (xs : List A) → take (length xs - n) (drop n xs) ≡ drop n xs
rest_is n xs = take_all (length xs - n) (drop n xs) (omega (arith, length-drop n xs))

module _ {A : Type 0} (f : A → Text) (ts : List Text) (cs : List (Text × Text)) (d : A) where
  pub read_end : (xs : List A) → HasClause (map f xs) → IsJoint joint.Nothing (map f (take (length xs - 2) (drop 2 xs))) → Behind ts (map f xs) cs → if_shape ts ≡ Some (others (cs ++ (f (get_or xs 0 d), f (get_or xs 1 d)) ∷ []) None)
  read_end [] has j h = absurd has
  read_end (a ∷ []) has j h = absurd has
  read_end (a ∷ b ∷ xs) has j h =
      let none : map f xs ≡ [] = subst (λ l. IsJoint joint.Nothing (map f l)) (rest_is 2 (a ∷ b ∷ xs)) j in
      behind_end ts (map f (a ∷ b ∷ xs)) cs (f a) (f b) (ap (λ l. f a ∷ f b ∷ l) none) has h

  else_by : (a b : A) (xs : List A) → HasClause (map f (a ∷ b ∷ xs)) → IsJoint joint.Else (map f xs) → Behind ts (map f (a ∷ b ∷ xs)) cs → if_shape ts ≡ Some (others (cs ++ (f a, f b) ∷ []) (Some (f (get_or (a ∷ b ∷ xs) 3 d))))
  else_by a b [] has j h = absurd j
  else_by a b (w ∷ []) has j h = absurd j
  else_by a b (w ∷ t ∷ []) has j h = behind_else ts (map f (a ∷ b ∷ w ∷ t ∷ [])) cs (f a) (f b) (f w) (f t) refl has j.0 j.1 h
  else_by a b (w ∷ t ∷ u ∷ xs) has j h = absurd j

  pub read_else : (xs : List A) → HasClause (map f xs) → IsJoint joint.Else (map f (take (length xs - 2) (drop 2 xs))) → Behind ts (map f xs) cs → if_shape ts ≡ Some (others (cs ++ (f (get_or xs 0 d), f (get_or xs 1 d)) ∷ []) (Some (f (get_or xs 3 d))))
  read_else [] has j h = absurd has
  read_else (a ∷ []) has j h = absurd has
  read_else (a ∷ b ∷ xs) has j h = else_by a b xs has (subst (λ l. IsJoint joint.Else (map f l)) (rest_is 2 (a ∷ b ∷ xs)) j) h

  elseif_by : (a b : A) (xs : List A) → HasClause (map f (a ∷ b ∷ xs)) → IsJoint joint.Elseif (map f xs) → Behind ts (map f (a ∷ b ∷ xs)) cs → Behind ts (map f (drop 3 (a ∷ b ∷ xs))) (cs ++ (f a, f b) ∷ [])
  elseif_by a b [] has j h = absurd j
  elseif_by a b (w ∷ xs) has j h = behind_next ts (map f (a ∷ b ∷ w ∷ xs)) cs (f a) (f b) (f w) (map f xs) refl has j h

  pub read_elseif : (xs : List A) → HasClause (map f xs) → IsJoint joint.Elseif (map f (take (length xs - 2) (drop 2 xs))) → Behind ts (map f xs) cs → Behind ts (map f (take (length xs - 3) (drop 3 xs))) (cs ++ (f (get_or xs 0 d), f (get_or xs 1 d)) ∷ [])
  read_elseif [] has j h = absurd has
  read_elseif (a ∷ []) has j h = absurd has
  read_elseif (a ∷ b ∷ xs) has j h = subst (λ l. Behind ts (map f l) (cs ++ (f a, f b) ∷ [])) (sym (rest_is 3 (a ∷ b ∷ xs))) (elseif_by a b xs has (subst (λ l. IsJoint joint.Elseif (map f l)) (rest_is 2 (a ∷ b ∷ xs)) j) h)
