-- A file's text is joined one character after another.
use Rattle.std.proofs.Common.{◌≡◌, ℕ, Bool, List, [], ◌∷◌, true, false, refl, sym, ap, ◌∙◌}
use Rattle.std.specs.Prelude.{◌==◌, ◌&&◌, ◌||◌}
use Rattle.std.specs.List.{list_any}
use Rattle.std.proofs.lemmas.Bool.{true≢false}
use Rattle.tcl_chars.specs.Place.{begins}
use Rattle.tcl_chan.specs.Newlines.{begins_line_feed, is_joined_return, joined_newlines}
use Rattle.tcl_chan.proofs.Steps.{joined-kept, joined-dropped}

-- to begin with a line feed is to begin with this character
begins_same : (cs : List ℕ) → begins 10 cs ≡ begins_line_feed cs
begins_same [] = refl
begins_same (c ∷ cs) = refl

pub return_is : (c : ℕ) (cs : List ℕ) → (c == 13 && begins 10 cs) ≡ is_joined_return c cs
return_is c cs = ap (λ b. c == 13 && b) (begins_same cs)

pub passed : (rest after : List ℕ) (c : ℕ) → rest ≡ c ∷ after → is_joined_return c after ≡ true → joined_newlines rest ≡ joined_newlines after
passed rest after c e h = ap joined_newlines e ∙ joined-dropped c after h

pub kept : (rest after : List ℕ) (c : ℕ) → rest ≡ c ∷ after → is_joined_return c after ≡ false → joined_newlines rest ≡ c ∷ joined_newlines after
kept rest after c e h = ap joined_newlines e ∙ joined-kept c after h

pub none_left : (rest : List ℕ) → rest ≡ [] → joined_newlines rest ≡ []
unfolding joined_newlines
none_left rest e = ap joined_newlines e

-- ---- a text without a return

kept_as_is : (c : ℕ) (cs : List ℕ) → (c == 13) ≡ false → joined_newlines (c ∷ cs) ≡ c ∷ joined_newlines cs
kept_as_is c cs h = joined-kept c cs (ap (λ b. b && begins_line_feed cs) h)

pub no_return : (cs : List ℕ) → list_any (λ c. c == 13) cs ≡ false → joined_newlines cs ≡ cs
unfolding joined_newlines
no_return [] h = refl
no_return (c ∷ cs) h = go (c == 13) refl (λ k. no_return cs k)
  where
    none : (b : Bool) → (c == 13) ≡ b → (b || list_any (λ y. y == 13) cs) ≡ false
    none b e = sym (ap (λ x. x || list_any (λ y. y == 13) cs) e) ∙ h

    go : (b : Bool) → (c == 13) ≡ b → (list_any (λ y. y == 13) cs ≡ false → joined_newlines cs ≡ cs) → joined_newlines (c ∷ cs) ≡ c ∷ cs
    go true e less = absurd (true≢false (none true e))
    go false e less = kept_as_is c cs e ∙ ap (λ x. c ∷ x) (less (none false e))
