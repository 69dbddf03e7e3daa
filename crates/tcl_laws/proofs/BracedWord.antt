-- An element in braces, read as a word.
use Rattle.std.proofs.Common.{◌≡◌, ℕ, zero, suc, ◌==◌, Bool, true, false, ◌&&◌, List, [], ◌∷◌, ◌++◌, Option, Some, None, Result, Ok, Err, sym, ap, ◌∙◌, subst, refl, arith, inl, inr}
use Rattle.std.specs.Prelude.{◌↔◌}
use Rattle.std.specs.Option.{option_map_or}
use Rattle.std.proofs.lemmas.Bool.{cases_Bool, eqb-true, ne_eqb, false≢true, or_parts}
use Rattle.std.proofs.lemmas.List.{append-nil}
use Rattle.std.proofs.Math.Bool.{and-false}
use Rattle.tcl_chars.specs.Characters.{newline, star, backslash, open_brace, close_brace}
use Rattle.tcl_chars.specs.Place.{before, place}
use Rattle.tcl_chars.specs.Reading.{with_front, all_turns}
use Rattle.tcl_chars.proofs.Turns.{last_turn, one_turn}
use Rattle.tcl_list.specs.Braces.{mark_of, hides, counted, is_balanced, to_close}
use Rattle.tcl_laws.specs.SameBrace.{SameBraceCloses}
use Rattle.tcl_laws.specs.OneCommand.{plain_value, IsWord}
use Rattle.tcl_list.specs.Written.{is_continued}
use Rattle.tcl_list.proofs.Complete.{closes, before_rest}
use Rattle.tcl_words.specs.declared.fault.Syntax.{Syntax}
use Rattle.tcl_words.specs.declared.fault.Syntax.TheVariants.{MissingBrace}
use Rattle.tcl_words.specs.declared.word.Form.TheVariants as form
use Rattle.tcl_words.specs.Parts.{Part, text, Shape}
use Rattle.tcl_words.specs.Words.{after_verbatim, at_brace, begins_hidden_newline, braced_at, ends_word, inner_at, marked, stretch, verbatim_at, word_at}
use Rattle.tcl_chars.proofs.Ends.{forward_shrinks}
use Rattle.tcl_words.proofs.Forward.{verbatim_forward}

-- ---- the brace that matches

abbrev or_missing : Option (List ℕ) → Result (List ℕ) Syntax
or_missing None = Err MissingBrace
or_missing (Some rest) = Ok rest

-- one character more: both searches do the same
one_mark : (hidden : Bool) (depth c : ℕ) (cs : List ℕ)
    → at_brace hidden depth (c ∷ cs) ≡ option_map_or (λ n. at_brace (hides (mark_of hidden c)) n cs) (counted (mark_of hidden c) depth) (Ok (c ∷ cs))
unfolding at_brace
one_mark true depth c cs = refl
one_mark false depth c cs =
    let P : ℕ → Type 0 = λ x. at_brace false depth (x ∷ cs) ≡ option_map_or (λ n. at_brace (hides (mark_of false x)) n cs) (counted (mark_of false x) depth) (Ok (x ∷ cs)) in
    elim (cases_Bool (c == backslash)) [
      | inl b ↦ subst P (sym (eqb-true c backslash b)) refl
      | inr b ↦ elim (cases_Bool (c == open_brace)) [
        | inl o ↦ subst P (sym (eqb-true c open_brace o)) (ap (λ n. at_brace false n cs) (omega arith))
        | inr o ↦ elim (cases_Bool (c == close_brace)) [
          | inl k ↦ subst P (sym (eqb-true c close_brace k)) (at_close depth)
          | inr k ↦ rw (b, o, k) refl
        ]
      ]
    ]
  where
    at_close : (n : ℕ) → at_brace false n (close_brace ∷ cs) ≡ option_map_or (λ m. at_brace false m cs) (counted (mark_of false close_brace) n) (Ok (close_brace ∷ cs))
    at_close zero = refl
    at_close (suc n) = rw (ne_eqb (suc n) 0 (λ z. absurd (omega arith))) (ap (λ m. at_brace false m cs) (omega arith))

same_mark : (c : ℕ) (cs : List ℕ) (hidden : Bool) (n : Option ℕ) → ((m : ℕ) → at_brace hidden m cs ≡ or_missing (to_close hidden m cs))
    → option_map_or (λ m. at_brace hidden m cs) n (Ok (c ∷ cs)) ≡ or_missing (option_map_or (λ m. to_close hidden m cs) n (Some (c ∷ cs)))
same_mark c cs hidden None later = refl
same_mark c cs hidden (Some m) later = later m

same_brace : (hidden : Bool) (depth : ℕ) (cs : List ℕ) → at_brace hidden depth cs ≡ or_missing (to_close hidden depth cs)
unfolding at_brace
same_brace hidden depth [] = refl
same_brace hidden depth (c ∷ cs) =
    one_mark hidden depth c cs ∙ same_mark c cs (hides (mark_of hidden c)) (counted (mark_of hidden c) depth) (λ m. same_brace (hides (mark_of hidden c)) m cs)

found_same : (rest : List ℕ) (o : Option (List ℕ)) → (o ≡ Some rest) ↔ (or_missing o ≡ Ok rest)
found_same rest None = (λ e. absurd cc, λ e. absurd cc)
found_same rest (Some r) = (λ e. cc, λ e. cc)

pub same_brace_closes : SameBraceCloses
same_brace_closes cs rest = rw (same_brace false 0 cs) (found_same rest (to_close false 0 cs))

at_end : (e rest : List ℕ) → is_balanced e ≡ true → at_brace false 0 (e ++ close_brace ∷ rest) ≡ Ok (close_brace ∷ rest)
at_end e rest h = same_brace false 0 (e ++ close_brace ∷ rest) ∙ ap or_missing (closes false 0 e rest h)

-- ---- what stands inside

and_no : (a b : Bool) → a ≡ true → (a && b) ≡ false → b ≡ false
and_no a b t h = sym (ap (λ x. x && b) t) ∙ h

-- no backslash-newline ends what stands for itself
all_verbatim : (cs : List ℕ) → is_continued cs ≡ false → after_verbatim cs ≡ []
unfolding after_verbatim
all_verbatim [] h = refl
all_verbatim (c ∷ []) h = refl
all_verbatim (c ∷ d ∷ cs) h =
    let here = or_parts ((c == backslash) && (d == newline)) _ h in
    elim (cases_Bool (c == backslash)) [
      | inl b ↦ rw (b, and_no (c == backslash) (d == newline) b here.0) (all_verbatim cs (or_parts _ (is_continued cs) here.1).1)
      | inr b ↦ rw b (all_verbatim (d ∷ cs) here.1)
    ]

not_hidden : (c : ℕ) (cs : List ℕ) → is_continued (c ∷ cs) ≡ false → begins_hidden_newline (c ∷ cs) ≡ false
not_hidden c cs h = (or_parts _ (is_continued cs) h).0

-- what a word's pieces are read as, and what they say
record Inside (size : ℕ) (e : List ℕ) : Type 0 where
  pieces : List Part
  read : all_turns (verbatim_at size) e ≡ Ok (pieces, [])
  value : plain_value pieces ≡ Some e

inside : (size : ℕ) (e : List ℕ) → is_continued e ≡ false → Inside size e
unfolding verbatim_at
inside size [] h = record { pieces = []; read = last_turn (verbatim_at size) [] [] refl; value = refl }
inside size (c ∷ cs) h =
    let one = text (stretch size (c ∷ cs) []) in
    let turn : verbatim_at size (c ∷ cs) ≡ Ok (Some one, []) = rw (not_hidden c cs h, all_verbatim (c ∷ cs) h) refl in
    let all : before (c ∷ cs) [] ++ [] ≡ c ∷ cs = append-nil (before (c ∷ cs) []) ∙ ap (λ t. before t []) (sym (append-nil (c ∷ cs))) ∙ sym (before_rest (c ∷ cs) []) in
    record {
      pieces = one ∷ [];
      read = one_turn (verbatim_at size) (c ∷ cs) one [] (forward_shrinks (verbatim_at size) (verbatim_forward size)) turn ∙ ap (with_front (one ∷ [])) (last_turn (verbatim_at size) [] [] refl);
      value = ap Some all;
    }

-- ---- the word

-- `{*}` stands in front of a word only where more of it follows
not_marked : (nested : Bool) (e rest : List ℕ) → is_balanced e ≡ true → ends_word nested rest ≡ true → marked nested (open_brace ∷ (e ++ close_brace ∷ rest)) ≡ false
not_marked nested [] rest b h = refl
not_marked nested (c ∷ []) rest b h = rw h (and-false _)
not_marked nested (c ∷ d ∷ e) rest b h = elim (cases_Bool (d == close_brace)) [
  | inl k ↦ elim (cases_Bool (c == star)) [
    | inl s ↦
        let P : ℕ → Type 0 = λ x. is_balanced (x ∷ d ∷ e) ≡ true in
        let Q : ℕ → Type 0 = λ x. is_balanced (star ∷ x ∷ e) ≡ true in
        absurd (false≢true (subst Q (eqb-true d close_brace k) (subst P (eqb-true c star s) b)))
    | inr s ↦ rw s refl
  ]
  | inr k ↦ rw (k, and-false (c == star)) refl
]

module _ (size levels : ℕ) (nested : Bool) where
  pub record Word (cs e rest : List ℕ) : Type 0 where
    pub word : Shape
    pub read : word_at size (inner_at size levels) nested cs ≡ Ok (word, rest)
    pub says : IsWord word e

  pub braced_word : (e rest : List ℕ) → is_balanced e ≡ true → is_continued e ≡ false → ends_word nested rest ≡ true → Word (open_brace ∷ (e ++ close_brace ∷ rest)) e rest
  unfolding word_at braced_at
  braced_word e rest b n h =
      let cs = e ++ close_brace ∷ rest in
      let found = inside (place size (close_brace ∷ rest)) e n in
      let turns : all_turns (verbatim_at (place size (close_brace ∷ rest))) (before cs (close_brace ∷ rest)) ≡ Ok (found.pieces, []) =
      ap (all_turns (verbatim_at (place size (close_brace ∷ rest)))) (sym (before_rest e (close_brace ∷ rest))) ∙ found.read in
      record {
        word = record { form = form.Braced; expands = false; pieces = found.pieces };
        read = rw (not_marked nested e rest b h, at_end e rest b, turns, h) refl;
        says = record { single = refl; value = found.value };
      }
