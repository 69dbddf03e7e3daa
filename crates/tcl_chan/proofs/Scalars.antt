-- What is taken of an input are characters, so its UTF-8 reads as them.
use Rattle.std.proofs.Common.{◌≡◌, ℕ, zero, suc, ◌≤◌, Bool, true, false, List, [], ◌∷◌, take, drop, length, length-drop, Option, Some, None, option_map, refl, ap, subst, ◌∙◌, arith, encode_utf8_all}
use Rattle.std.proofs.Math.Utf8.{scalar, scalars}
use Rattle.std.specs.Prelude.{◌==◌, ◌&&◌, cond}
use Rattle.std.specs.Str.{chars as spelled}
use Rattle.std.proofs.lemmas.Bool.{and_from, and_parts}
use Rattle.std.proofs.lemmas.Str.{chars-encodes}
use Rattle.bstr.specs.Utf8.{decoded, or_replacement, lossy_chars}
use Rattle.bstr.proofs.lemmas.PieceLemmas.{piece-bounds, lossy_chars-step, lossy_chars-nil}
use Rattle.bstr.proofs.lemmas.SoundLemmas.{SpellsChar-decoded}
use Rattle.tcl_chan.specs.Characters.{input_chars, line_taken, text_before, or_empty, Left, Took}
use Rattle.tcl_chan.specs.Newlines.{begins_line_feed, joined_newlines}

scalar-piece : (bs : List ℕ) (found : Option ℕ) → (decoded bs).char ≡ found → scalar (or_replacement found) ≡ true
scalar-piece bs None is = refl
scalar-piece bs (Some c) is = (SpellsChar-decoded bs c is).scalar

scalars-lossy : (fuel : ℕ) (bs : List ℕ) → length bs ≤ fuel → scalars (lossy_chars bs) ≡ true
scalars-lossy fuel [] le = ap scalars lossy_chars-nil
scalars-lossy zero (b ∷ bs) le = absurd (omega arith)
scalars-lossy (suc fuel) (b ∷ bs) le =
    let all = b ∷ bs in
    let size = (decoded all).size in
    let bounds = piece-bounds all (omega arith) in
    let left = length-drop size all in
    ap scalars (lossy_chars-step all (omega arith))
    ∙ and_from _ _ (scalar-piece all (decoded all).char refl) (scalars-lossy fuel (drop size all) (omega arith))

scalars-cond : (b : Bool) (xs ys : List ℕ) → scalars xs ≡ true → scalars ys ≡ true → scalars (cond b xs ys) ≡ true
scalars-cond true xs ys h k = h
scalars-cond false xs ys h k = k

scalars-joined : (cs : List ℕ) → scalars cs ≡ true → scalars (joined_newlines cs) ≡ true
unfolding joined_newlines
scalars-joined [] h = refl
scalars-joined (c ∷ cs) h =
    let parts = and_parts _ _ h in
    let rest = scalars-joined cs parts.1 in
    scalars-cond (c == 13 && begins_line_feed cs) (joined_newlines cs) (c ∷ joined_newlines cs) rest (and_from _ _ parts.0 rest)

scalars-input : (bytes : List ℕ) → scalars (input_chars bytes) ≡ true
scalars-input bytes = scalars-joined (lossy_chars bytes) (scalars-lossy (length bytes) bytes (omega arith))

scalars-take : (n : ℕ) (cs : List ℕ) → scalars cs ≡ true → scalars (take n cs) ≡ true
scalars-take zero cs h = refl
scalars-take (suc n) [] h = refl
scalars-take (suc n) (c ∷ cs) h = let parts = and_parts _ _ h in and_from _ _ parts.0 (scalars-take n cs parts.1)

abbrev text_of : Took (Option (List ℕ)) → List ℕ
text_of took = or_empty took.text

scalars-choice : (b : Bool) (x y : Took (Option (List ℕ))) → scalars (text_of x) ≡ true → scalars (text_of y) ≡ true → scalars (text_of (cond b x y)) ≡ true
scalars-choice true x y h k = h
scalars-choice false x y h k = k

scalars-line : (cs : List ℕ) (met : Bool) → scalars cs ≡ true → scalars (text_of (line_taken cs met)) ≡ true
unfolding line_taken
scalars-line [] met h = refl
scalars-line (c ∷ cs) met h =
    let parts = and_parts _ _ h in
    scalars-choice (c == 10) (record { text = Some []; left = record { chars = cs; met_end = met } }) (text_before c (line_taken cs met)) refl
    (and_from _ _ parts.0 (scalars-line cs met parts.1))

-- the bytes of a line read as its characters
pub line-reads : (bytes : List ℕ) (met : Bool) (line chars : Option (List ℕ)) (left : Left) → line ≡ option_map encode_utf8_all chars
    → line_taken (input_chars bytes) met ≡ record { text = chars; left = left } → option_map spelled line ≡ chars
line-reads bytes met line None left spells taken = ap (option_map spelled) spells
line-reads bytes met line (Some cs) left spells taken =
    let good : scalars cs ≡ true = subst (λ (t : Took (Option (List ℕ))). scalars (text_of t) ≡ true) taken (scalars-line (input_chars bytes) met (scalars-input bytes)) in
    ap (option_map spelled) spells ∙ ap Some (chars-encodes cs good)

-- the bytes of the first characters read as these
pub text-reads : (bytes text : List ℕ) (n : ℕ) → text ≡ encode_utf8_all (take n (input_chars bytes)) → spelled text ≡ take n (input_chars bytes)
text-reads bytes text n spells =
    ap spelled spells ∙ chars-encodes (take n (input_chars bytes)) (scalars-take n (input_chars bytes) (scalars-input bytes))
