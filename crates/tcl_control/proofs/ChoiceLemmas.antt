-- The words of an if(n), read from the left.
use Rattle.std.proofs.Common.{◌≡◌, ℕ, ◌+◌, ◌<◌, ◌≤◌, Bool, true, false, true≢false, List, [], ◌∷◌, ◌++◌, Some, None, length, drop, sym, subst, ap, ◌∙◌, refl, arith}
use Rattle.std.specs.Prelude.{Option, if◌then◌else◌}
use Rattle.tcl_arguments.specs.WordAt.{word}
use Rattle.tcl_chars.specs.Texts.{literal}
use Rattle.tcl_control.specs.Choices.{body_offset, goes_on, one_body, last_of, with_last, with_clauses}
use Rattle.tcl_meaning.specs.Control.{if_page, if_shaped}
use Rattle.tcl_meaning.specs.Shapes.{if_shape, is_word, with_clause, at_condition, at_body, behind_body, last_body}
use Rattle.tcl_meaning.specs.Tasks.{Others}
use Rattle.tcl_pages.specs.Texts.{Text}

abbrev offset_by : Bool → ℕ
offset_by b = if b then 2 else 1

body_by : (b : Bool) (c w : Text) (ws : List Text) → offset_by b < length (c ∷ w ∷ ws)
    → (if b then at_body c ws else behind_body c w ws) ≡ behind_body c (word (c ∷ w ∷ ws) (offset_by b)) (drop (offset_by b + 1) (c ∷ w ∷ ws))
body_by true c w [] h = absurd (omega arith)
body_by true c w (body ∷ ws) h = refl
body_by false c w ws h = refl

has_body : (ds : List Text) → body_offset ds < length ds → at_condition ds ≡ behind_body (word ds 0) (word ds (body_offset ds)) (drop (body_offset ds + 1) ds)
has_body [] h = absurd (omega arith)
has_body (c ∷ []) h = absurd (omega arith)
has_body (c ∷ w ∷ ws) h = body_by (is_word (literal "then") w) c w ws h

no_body_by : (b : Bool) (c w : Text) (ws : List Text) → length (c ∷ w ∷ ws) ≤ offset_by b → (if b then at_body c ws else behind_body c w ws) ≡ None
no_body_by true c w [] h = refl
no_body_by true c w (body ∷ ws) h = absurd (omega arith)
no_body_by false c w ws h = absurd (omega arith)

has_no_body : (ds : List Text) → length ds ≤ body_offset ds → at_condition ds ≡ None
has_no_body [] h = refl
has_no_body (c ∷ []) h = refl
has_no_body (c ∷ w ∷ ws) h = no_body_by (is_word (literal "then") w) c w ws h

-- ---- behind a body

abbrev behind_by : Bool → Text → Text → Text → List Text → Option Others
behind_by b c body w ws = if b then with_clause c body (at_condition ws) else if is_word (literal "else") w then last_body c body ws else last_body c body (w ∷ ws)

else_by : (b : Bool) (c body w : Text) (ws : List Text)
    → (if b then last_body c body ws else last_body c body (w ∷ ws)) ≡ with_last ((c, body) ∷ []) (if b then one_body ws else one_body (w ∷ ws))
else_by true c body w [] = refl
else_by true c body w (t ∷ []) = refl
else_by true c body w (t ∷ u ∷ ws) = refl
else_by false c body w [] = refl
else_by false c body w (t ∷ ws) = refl

ends_behind : (c body : Text) (ws : List Text) → goes_on ws ≡ false → behind_body c body ws ≡ with_last ((c, body) ∷ []) (last_of ws)
ends_behind c body [] e = refl
ends_behind c body (w ∷ ws) e = ap (λ b. behind_by b c body w ws) e ∙ else_by (is_word (literal "else") w) c body w ws

goes_on_behind : (c body : Text) (ws : List Text) → goes_on ws ≡ true → behind_body c body ws ≡ with_clause c body (at_condition (drop 1 ws))
goes_on_behind c body [] e = absurd (true≢false (sym e))
goes_on_behind c body (w ∷ ws) e = ap (λ b. behind_by b c body w ws) e

pub has_more : (ws : List Text) → goes_on ws ≡ true → 1 ≤ length ws
has_more [] e = absurd (true≢false (sym e))
has_more (w ∷ ws) e = omega arith

-- ---- clauses in front

clause_behind : (cs : List (Text × Text)) (c : Text × Text) (others : Option Others) → with_clauses (cs ++ c ∷ []) others ≡ with_clauses cs (with_clause c.0 c.1 others)
clause_behind [] c others = refl
clause_behind (d ∷ cs) c others = ap (with_clause d.0 d.1) (clause_behind cs c others)

none_behind : (cs : List (Text × Text)) → with_clauses cs None ≡ None
none_behind [] = refl
none_behind (d ∷ cs) = ap (with_clause d.0 d.1) (none_behind cs)

-- a last clause with what is run if none holds
lasts : (cs : List (Text × Text)) (c : Text × Text) (last : Option (Option Text)) → with_clauses cs (with_last (c ∷ []) last) ≡ with_last (cs ++ c ∷ []) last
lasts cs c None = none_behind cs
lasts [] c (Some otherwise) = refl
lasts (d ∷ cs) c (Some otherwise) = ap (with_clause d.0 d.1) (lasts cs c (Some otherwise))

-- ---- a turn over the words that are left

body_stands : (ds behind : List Text) (offset : ℕ) (condition body : Text) → offset ≡ body_offset ds → offset < length ds → condition ≡ word ds 0 → body ≡ word ds offset
    → behind ≡ drop (offset + 1) ds → at_condition ds ≡ behind_body condition body behind
body_stands ds behind offset condition body eo h ec eb ed =
    has_body ds (subst (λ k. k < length ds) eo h)
    ∙ sym (ap (λ z. behind_body z body behind) ec ∙ ap (λ z. behind_body (word ds 0) z behind) (eb ∙ ap (word ds) eo)
    ∙ ap (λ z. behind_body (word ds 0) (word ds (body_offset ds)) z) (ed ∙ ap (λ k. drop (k + 1) ds) eo))

pub shape_goes_on : (whole : Option Others) (cs : List (Text × Text)) (ds behind : List Text) (offset : ℕ) (condition body : Text)
    → whole ≡ with_clauses cs (at_condition ds) → offset ≡ body_offset ds → offset < length ds → condition ≡ word ds 0 → body ≡ word ds offset
    → behind ≡ drop (offset + 1) ds → goes_on behind ≡ true → whole ≡ with_clauses (cs ++ (condition, body) ∷ []) (at_condition (drop 1 behind))
shape_goes_on whole cs ds behind offset condition body e eo h ec eb ed g =
    e ∙ ap (with_clauses cs) (body_stands ds behind offset condition body eo h ec eb ed ∙ goes_on_behind condition body behind g)
    ∙ sym (clause_behind cs (condition, body) (at_condition (drop 1 behind)))

pub shape_ends : (whole : Option Others) (cs : List (Text × Text)) (ds behind : List Text) (offset : ℕ) (condition body : Text)
    → whole ≡ with_clauses cs (at_condition ds) → offset ≡ body_offset ds → offset < length ds → condition ≡ word ds 0 → body ≡ word ds offset
    → behind ≡ drop (offset + 1) ds → goes_on behind ≡ false → whole ≡ with_last (cs ++ (condition, body) ∷ []) (last_of behind)
shape_ends whole cs ds behind offset condition body e eo h ec eb ed g =
    e ∙ ap (with_clauses cs) (body_stands ds behind offset condition body eo h ec eb ed ∙ ends_behind condition body behind g)
    ∙ lasts cs (condition, body) (last_of behind)

pub shape_fails : (whole : Option Others) (cs : List (Text × Text)) (ds : List Text) (offset : ℕ)
    → whole ≡ with_clauses cs (at_condition ds) → offset ≡ body_offset ds → length ds ≤ offset → None ≡ whole
shape_fails whole cs ds offset e eo h = sym (e ∙ ap (with_clauses cs) (has_no_body ds (subst (λ k. length ds ≤ k) eo h)) ∙ none_behind cs)

pub shape_is_empty : (whole : Option Others) (cs : List (Text × Text)) (ds : List Text)
    → whole ≡ with_clauses cs (at_condition ds) → length ds ≤ 0 → None ≡ whole
shape_is_empty whole cs [] e h = sym (e ∙ none_behind cs)
shape_is_empty whole cs (d ∷ ds) e h = absurd (omega arith)

pub if_is : (ws : List Text) (shape : Option Others) → shape ≡ if_shape ws → if_page ws ≡ if_shaped shape
unfolding if_page
if_is ws shape e = sym (ap if_shaped e)
