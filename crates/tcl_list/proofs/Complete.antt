-- What is spelled is read.
use Rattle.std.proofs.Common.{◌≡◌, ◌≢◌, ℕ, zero, suc, ◌-◌, ◌==◌, Bool, true, false, List, [], ◌∷◌, ◌++◌, length, drop, Option, Some, None, Ok, Err, sym, ap, ◌∙◌, refl, arith, length-append}
use Rattle.std.specs.Option.{option_map_or}
use Rattle.std.proofs.lemmas.Bool.{cond-true, cond-false, eq-eqb, ne_eqb, false≢true}
use Rattle.std.proofs.lemmas.List.{take_at}
use Rattle.tcl_chars.specs.Characters.{backslash, quote, open_brace, close_brace}
use Rattle.tcl_chars.specs.Classes.{is_list_space}
use Rattle.tcl_chars.specs.Escape.{escape}
use Rattle.tcl_chars.specs.Place.{before}
use Rattle.tcl_chars.specs.Reading.{◌>>=◌, with_front}
use Rattle.tcl_chars.proofs.Turns.{last_turn, one_turn}
use Rattle.tcl_list.specs.Braces.{mark_of, hides, counted, balances, is_balanced, to_close}
use Rattle.tcl_list.specs.Elements.{ends, letter, letters, up_to_space, followed, quoted, braced, element, first_element, next_element}
use Rattle.tcl_list.specs.Faults.{followed_by}
use Rattle.tcl_list.specs.Spelling.{Letters, none, plain, escaped, ElementEnds, Spells}
use Rattle.tcl_list.specs.FirstFault.{HasNoSpace}
use Rattle.tcl_list.specs.Spelling as spelling
use Rattle.tcl_list.specs.declared.reading.Closed.{Closed}
use Rattle.tcl_list.specs.declared.reading.Closed.TheVariants as closed
use Rattle.tcl_list.specs.declared.reading.End.{End}
use Rattle.tcl_list.specs.declared.reading.End.TheVariants.{Space, Quote}
use Rattle.tcl_list.proofs.Forward.{letter_shrinks}
use Rattle.tcl_list.proofs.Parts.{quote_closed, brace_closed}

-- ---- letters

pub letter_at_end : (end : End) (rest : List ℕ) → ElementEnds end rest → letter end rest ≡ Ok (None, rest)
letter_at_end end [] h = refl
letter_at_end end (c ∷ cs) h = cond-true _ _ _ h

backslash_goes_on : (end : End) (c : ℕ) → c ≡ backslash → ends end c ≡ false
backslash_goes_on Space c e = ap is_list_space e
backslash_goes_on Quote c e = ap (λ x. x == quote) e

pub letter_plain : (end : End) (c : ℕ) (cs : List ℕ) → ends end c ≡ false → c ≢ backslash → letter end (c ∷ cs) ≡ Ok (Some c, cs)
letter_plain end c cs h n = cond-false _ _ _ h ∙ cond-false _ _ _ (ne_eqb c backslash n)

pub letter_escaped : (end : End) (c : ℕ) (cs : List ℕ) → c ≡ backslash → letter end (c ∷ cs) ≡ Ok (Some (escape (c ∷ cs)).0, drop (escape (c ∷ cs)).1 (c ∷ cs))
letter_escaped end c cs e = cond-false _ _ _ (backslash_goes_on end c e) ∙ cond-true _ _ _ (eq-eqb c backslash e)

pub letters_read : (end : End) (cs said rest : List ℕ) → Letters end cs said rest → ElementEnds end rest → letters end cs ≡ Ok (said, rest)
unfolding letters
letters_read end _ _ _ (none rest) h = last_turn (letter end) rest rest (letter_at_end end rest h)
letters_read end _ _ _ (plain c cs said rest e n l) h =
    one_turn (letter end) (c ∷ cs) c cs (letter_shrinks end) (letter_plain end c cs e n) ∙ ap (with_front (c ∷ [])) (letters_read end cs said rest l h)
letters_read end _ _ _ (escaped c cs said rest e l) h =
    one_turn (letter end) (c ∷ cs) (escape (c ∷ cs)).0 (drop (escape (c ∷ cs)).1 (c ∷ cs)) (letter_shrinks end) (letter_escaped end c cs e)
    ∙ ap (with_front ((escape (c ∷ cs)).0 ∷ [])) (letters_read end (drop (escape (c ∷ cs)).1 (c ∷ cs)) said rest l h)

-- ---- braces

closes_here : (hidden : Bool) (depth : ℕ) (rest : List ℕ) → balances hidden depth [] ≡ true → to_close hidden depth (close_brace ∷ rest) ≡ Some (close_brace ∷ rest)
closes_here true depth rest h = absurd (false≢true h)
closes_here false zero rest h = refl
closes_here false (suc depth) rest h = absurd (false≢true (sym (ne_eqb (suc depth) 0 (λ z. omega arith)) ∙ h))

closes_later : (c : ℕ) (e rest : List ℕ) (hidden : Bool) (n : Option ℕ) → ((m : ℕ) → balances hidden m e ≡ true → to_close hidden m (e ++ close_brace ∷ rest) ≡ Some (close_brace ∷ rest))
    → option_map_or (λ m. balances hidden m e) n false ≡ true → option_map_or (λ m. to_close hidden m (e ++ close_brace ∷ rest)) n (Some (c ∷ (e ++ close_brace ∷ rest))) ≡ Some (close_brace ∷ rest)
closes_later c e rest hidden None later h = absurd (false≢true h)
closes_later c e rest hidden (Some m) later h = later m h

pub closes : (hidden : Bool) (depth : ℕ) (e rest : List ℕ) → balances hidden depth e ≡ true → to_close hidden depth (e ++ close_brace ∷ rest) ≡ Some (close_brace ∷ rest)
closes hidden depth [] rest h = closes_here hidden depth rest h
closes hidden depth (c ∷ e) rest h = closes_later c e rest (hides (mark_of hidden c)) (counted (mark_of hidden c) depth) (λ m. closes (hides (mark_of hidden c)) m e rest) h

pub before_rest : (e rest : List ℕ) → e ≡ before (e ++ rest) rest
before_rest e rest = sym (take_at e rest (length (e ++ rest) - length rest) (omega (arith, length-append e rest)))

pub braced_read : (cs e rest : List ℕ) → is_balanced e ≡ true → cs ≡ e ++ close_brace ∷ rest → braced cs ≡ followed closed.Brace e rest
braced_read cs e rest h is =
    ap braced is ∙ brace_closed (e ++ close_brace ∷ rest) (close_brace ∷ rest) e rest (closes false 0 e rest h) (before_rest e (close_brace ∷ rest)) refl

-- ---- what follows

followed_read : (close : Closed) (e rest : List ℕ) → ElementEnds Space rest → followed close e rest ≡ Ok (e, rest)
followed_read close e [] h = refl
followed_read close e (c ∷ cs) h = cond-true _ _ _ h

word_is : (x rest : List ℕ) → HasNoSpace x → ElementEnds Space rest → up_to_space (x ++ rest) ≡ x
word_is [] [] s h = refl
word_is [] (c ∷ cs) s h = cond-true _ _ _ h
word_is (c ∷ x) rest s h = cond-false _ _ _ s.0 ∙ ap (λ t. c ∷ t) (word_is x rest s.1 h)

pub followed_bad : (close : Closed) (e : List ℕ) (d : ℕ) (x rest : List ℕ) → HasNoSpace (d ∷ x) → ElementEnds Space rest → followed close e (d ∷ (x ++ rest)) ≡ Err (followed_by close (d ∷ x))
followed_bad close e d x rest s h = cond-false _ _ _ s.0 ∙ ap (λ t. Err (followed_by close t)) (word_is (d ∷ x) rest s h)

-- ---- elements

pub at_brace : (c : ℕ) (cs : List ℕ) → c ≡ open_brace → element c cs ≡ braced cs
at_brace c cs e = cond-true _ _ _ (eq-eqb c open_brace e)

pub at_quote : (c : ℕ) (cs : List ℕ) → c ≡ quote → element c cs ≡ quoted cs
at_quote c cs e = cond-false _ _ _ (ap (λ x. x == open_brace) e) ∙ cond-true _ _ _ (eq-eqb c quote e)

pub at_other : (c : ℕ) (cs : List ℕ) → c ≢ open_brace → c ≢ quote → element c cs ≡ letters Space (c ∷ cs)
at_other c cs b q = cond-false _ _ _ (ne_eqb c open_brace b) ∙ cond-false _ _ _ (ne_eqb c quote q)

starts : (c : ℕ) (cs : List ℕ) → is_list_space c ≡ false → next_element (c ∷ cs) ≡ (element c cs >>= λ x. Ok (Some x.0, x.1))
unfolding next_element
starts c cs s = ap first_element (cond-false _ _ _ s)

pub brace_is_solid : (c : ℕ) → c ≡ open_brace → is_list_space c ≡ false
brace_is_solid c e = ap is_list_space e

pub quote_is_solid : (c : ℕ) → c ≡ quote → is_list_space c ≡ false
quote_is_solid c e = ap is_list_space e

pub found : (c : ℕ) (cs e rest : List ℕ) → is_list_space c ≡ false → element c cs ≡ Ok (e, rest) → next_element (c ∷ cs) ≡ Ok (Some e, rest)
found c cs e rest s h = starts c cs s ∙ ap (λ r. r >>= λ x. Ok (Some x.0, x.1)) h

pub lost : (c : ℕ) (cs m : List ℕ) → is_list_space c ≡ false → element c cs ≡ Err m → next_element (c ∷ cs) ≡ Err m
lost c cs m s h = starts c cs s ∙ ap (λ r. r >>= λ x. Ok (Some x.0, x.1)) h

pub spelled_next : (cs e rest : List ℕ) → Spells cs e rest → next_element cs ≡ Ok (Some e, rest)
spelled_next _ _ _ (spelling.bare c cs e rest s b q l h) = found c cs e rest s (at_other c cs b q ∙ letters_read Space (c ∷ cs) e rest l h)
spelled_next _ _ _ (spelling.quoted c cs e rest q l h) =
    found c cs e rest (quote_is_solid c q) (at_quote c cs q ∙ quote_closed cs e (quote ∷ rest) rest quote (letters_read Quote cs e (quote ∷ rest) l refl) refl ∙ followed_read closed.Quote e rest h)
spelled_next _ _ _ (spelling.braced c cs e rest b i j h) = found c cs e rest (brace_is_solid c b) (at_brace c cs b ∙ braced_read cs e rest i j ∙ followed_read closed.Brace e rest h)
