-- What holds of each piece as it is read holds of all the pieces of a command or of an operand.
use Rattle.std.proofs.Common.{◌≡◌, ℕ, zero, suc, ◌-◌, ◌<◌, ◌≤◌, Bool, true, false, ◌==◌, ◌&&◌, List, [], ◌∷◌, length, get_or, Option, Some, None, Result, Ok, Err, sym, subst, arith}
use Rattle.std.specs.Prelude.{IfOk, IfSome, if◌then◌else◌}
use Rattle.std.proofs.lemmas.List.{length-take}
use Rattle.tcl_chars.specs.Characters.{backslash, dollar, open_brace, open_paren, open_bracket, quote}
use Rattle.tcl_chars.specs.Place.{EndsWith, begins, tail, before, place}
use Rattle.tcl_chars.specs.Reading.{◌>>=◌, Reading, with_front, after_turn, turns, all_turns}
use Rattle.tcl_chars.proofs.Ends.{if_cond, if_bind, always, Forward, Moves, ends_le, ends_tail}
use Rattle.tcl_words.specs.declared.fault.Syntax.{Syntax}
use Rattle.tcl_words.specs.declared.fault.Syntax.TheVariants.{AfterBrace, AfterQuote}
use Rattle.tcl_words.specs.declared.front.Kind.{Kind}
use Rattle.tcl_words.specs.declared.front.Mode.{Mode}
use Rattle.tcl_words.specs.declared.front.Mode.TheVariants as mode
use Rattle.tcl_words.specs.declared.word.Form.{Form}
use Rattle.tcl_words.specs.declared.word.Form.TheVariants as form
use Rattle.tcl_words.specs.Parts.{Stretch, Part, text, escape, var, elem_, bracket, Parts, parts_of, Shape}
use Rattle.tcl_words.specs.Words.{after_blanks, after_command, ends_word, after_name, begins_variable, ends_pieces, kind_of, at_variable_brace, at_brace, begins_hidden_newline, marked, form_of, closed, verbatim_at, braced_at, Inner, named, variable_at, bracket_at, piece_of, piece_at, pieces_at, quoted_at, word_of, lone_at, operand_at, word_at, next_word, words_at, first_at, inner_at}
use Rattle.tcl_words.specs.First.{command, first_of, first, operand}
use Rattle.tcl_words.proofs.Forward.{blanks_end, gaps_end, name_end, verbatim_forward, Inside, piece_forward, word_forward, inner_inside}

-- ---- what each turn gives, from a text of at most b characters, holds of all that the turns give

-- Q holds of a list where P holds of each of its items
pub record Gathers {A : Type 0} (P : A → Type 0) (Q : List A → Type 0) : Type 0 where
  pub empty : Q []
  pub more : (x : A) (xs : List A) → P x → Q xs → Q (x ∷ xs)
  pub split : (x : A) (xs : List A) → Q (x ∷ xs) → P x × Q xs

pub one_of : {A : Type 0} (P : A → Type 0) (Q : List A → Type 0) (g : Gathers P Q) (xs : List A) (i : ℕ) (x : A) → Q xs → i < length xs → x ≡ get_or xs i x → P x
one_of P Q g [] i x h less e = absurd (omega arith)
one_of P Q g (y ∷ xs) zero x h less e = subst P (sym e) (g.split y xs h).0
one_of P Q g (y ∷ xs) (suc i) x h less e = one_of P Q g xs i x (g.split y xs h).1 (omega arith) e

front_gathers : {A : Type 0} (P : A → Type 0) (Q : List A → Type 0) (g : Gathers P Q) (x : A) (r : Result (List A × List ℕ) Syntax) → P x → IfOk r (λ xs. Q xs.0) → IfOk (with_front (x ∷ []) r) (λ xs. Q xs.0)
front_gathers P Q g x (Ok xs) h k = g.more x xs.0 h k
front_gathers P Q g x (Err m) h k = tt

turn_gathers : {A : Type 0} (P : A → Type 0) (Q : List A → Type 0) (g : Gathers P Q) (b : ℕ) (cs : List ℕ) (r : Result (Option A × List ℕ) Syntax) (next : Reading Syntax (List A)) → length cs ≤ b → IfOk r (λ t. IfSome t.0 P) → IfOk r (λ t. Moves cs t.0 t.1)
    → ((rest : List ℕ) → length rest ≤ b → IfOk (next rest) (λ xs. Q xs.0)) → IfOk (r >>= λ t. after_turn next t.0 t.1) (λ xs. Q xs.0)
turn_gathers P Q g b cs (Err m) next le h e k = tt
turn_gathers P Q g b cs (Ok (None, rest)) next le h e k = g.empty
turn_gathers P Q g b cs (Ok (Some x, rest)) next le h e k = front_gathers P Q g x (next rest) h (k rest (omega (arith, ends_le cs rest e.ends)))

turns_gather_n : {A : Type 0} (P : A → Type 0) (Q : List A → Type 0) (g : Gathers P Q) (step : Reading Syntax (Option A)) (f : Forward step) (b n : ℕ) (cs : List ℕ) → length cs ≤ b → ((here : List ℕ) → length here ≤ b → IfOk (step here) (λ t. IfSome t.0 P)) → IfOk (turns step n cs) (λ xs. Q xs.0)
unfolding turns
turns_gather_n P Q g step f b zero cs le each = g.empty
turns_gather_n P Q g step f b (suc n) cs le each = turn_gathers P Q g b cs (step cs) (turns step n) le (each cs le) (f.each cs) (λ rest h. turns_gather_n P Q g step f b n rest h each)

turns_gather : {A : Type 0} (P : A → Type 0) (Q : List A → Type 0) (g : Gathers P Q) (step : Reading Syntax (Option A)) (f : Forward step) (b : ℕ) (cs : List ℕ) → length cs ≤ b → ((here : List ℕ) → length here ≤ b → IfOk (step here) (λ t. IfSome t.0 P)) → IfOk (all_turns step cs) (λ xs. Q xs.0)
unfolding all_turns
turns_gather P Q g step f b cs le each = turns_gather_n P Q g step f b (suc (length cs)) cs le each

-- ---- pieces and words

tail_le : (cs : List ℕ) (n : ℕ) → length cs ≤ n → length (tail cs) ≤ n
tail_le cs n h = omega (arith, ends_le cs (tail cs) (ends_tail cs))

end_le : (cs rest : List ℕ) (n : ℕ) → EndsWith cs rest → length cs ≤ n → length rest ≤ n
end_le cs rest n e h = omega (arith, ends_le cs rest e)

tail_less : (cs : List ℕ) (n : ℕ) → length cs ≤ suc n → length (tail cs) ≤ n
tail_less [] n h = omega arith
tail_less (c ∷ cs) n h = omega arith

-- Where n levels of brackets and indices are left, P n holds of each piece that is read from a text of at most b + 1 characters, and so Q n of
-- the pieces of a word, and W n of the words of a command.
pub record Fits (b : ℕ) (P : ℕ → Part → Type 0) (Q : ℕ → List Part → Type 0) (W : ℕ → List Shape → Type 0) : Type 0 where
  pub pieces : (n : ℕ) → Gathers (P n) (Q n)
  pub words : (n : ℕ) → Gathers (λ w. Q n w.pieces) (W n)
  pub of_text : (n : ℕ) (s : Stretch) → P n (text s)
  pub of_escape : (n : ℕ) (s : Stretch) (c : ℕ) → P n (escape s c)
  pub of_var : (n : ℕ) (s name : Stretch) → P n (var s name)
  pub of_elem : (n : ℕ) (s name : Stretch) (ps : List Part) → Q n ps → P (suc n) (elem_ s name (parts_of ps))
  pub of_bracket : (n : ℕ) (s script : Stretch) → length script.text ≤ b → P n (bracket s script)

module _ (b : ℕ) (P : ℕ → Part → Type 0) (Q : ℕ → List Part → Type 0) (W : ℕ → List Shape → Type 0) (fits : Fits b P Q W) (size : ℕ) where
  abbrev ReadsPart : ℕ → Result (Part × List ℕ) Syntax → Type 0
  ReadsPart n r = IfOk r (λ x. P n x.0)

  abbrev ReadsPieces : ℕ → Result (List Part × List ℕ) Syntax → Type 0
  ReadsPieces n r = IfOk r (λ x. Q n x.0)

  abbrev ReadsWord : ℕ → Result (Shape × List ℕ) Syntax → Type 0
  ReadsWord n r = IfOk r (λ x. Q n x.0.pieces)

  abbrev ReadsWords : ℕ → Result (List Shape × List ℕ) Syntax → Type 0
  ReadsWords n r = IfOk r (λ x. W n x.0)

  abbrev GivesPart : ℕ → Result (Option Part × List ℕ) Syntax → Type 0
  GivesPart n r = IfOk r (λ t. IfSome t.0 (P n))

  abbrev GivesWord : ℕ → Result (Option Shape × List ℕ) Syntax → Type 0
  GivesWord n r = IfOk r (λ t. IfSome t.0 (λ w. Q n w.pieces))

  abbrev GivesWords : ℕ → Result (Option (List Shape) × List ℕ) Syntax → Type 0
  GivesWords n r = IfOk r (λ t. IfSome t.0 (W n))

  -- of an index that is read the element is a piece
  abbrev ReadsIndex : ℕ → Result (Parts × List ℕ) Syntax → Type 0
  ReadsIndex n r = IfOk r (λ x. (s name : Stretch) → P n (elem_ s name x.0))

  -- text and backslash-newlines alone stand inside braces
  verbatim_holds : (n at : ℕ) (cs : List ℕ) → GivesPart n (verbatim_at at cs)
  unfolding verbatim_at
  verbatim_holds n at [] = tt
  verbatim_holds n at (c ∷ cs) = if_cond (GivesPart n) (begins_hidden_newline (c ∷ cs)) _ _ (fits.of_escape n _ _) (fits.of_text n _)

  braced_holds : (n : ℕ) (cs : List ℕ) → ReadsPieces n (braced_at size cs)
  unfolding braced_at
  braced_holds n cs =
      if_bind (λ x. Unit {0}) (λ x. Q n x.0) (at_brace false 0 (tail cs)) _ (always (at_brace false 0 (tail cs)))
      (λ close h. if_bind (λ x. Q n x.0) (λ x. Q n x.0) (all_turns (verbatim_at (place size close)) (before (tail cs) close)) _
      (turns_gather (P n) (Q n) (fits.pieces n) (verbatim_at (place size close)) (verbatim_forward (place size close)) (length (before (tail cs) close)) (before (tail cs) close) (omega arith) (λ here le. verbatim_holds n (place size close) here)) (λ x k. k))

  module _ (n : ℕ) (inner : Inner) (inside : Inside inner) (index_holds : (cs : List ℕ) → length cs ≤ suc b → ReadsIndex n (inner.index cs)) where
    named_holds : (cs name rest : List ℕ) → length rest ≤ suc b → ReadsPart n (named size inner cs name rest)
    named_holds cs name rest le =
        if_cond (ReadsPart n) (begins open_paren rest) _ _
        (if_bind (λ (x : Parts × List ℕ). (s name : Stretch) → P n (elem_ s name x.0)) (λ x. P n x.0) (inner.index (tail rest)) _ (index_holds (tail rest) (tail_le rest (suc b) le)) (λ x h. h _ _))
        (fits.of_var n _ _)

    variable_holds : (cs : List ℕ) → length cs ≤ suc b → ReadsPart n (variable_at size inner cs)
    unfolding variable_at
    variable_holds cs le =
        if_cond (ReadsPart n) (begins open_brace (tail cs)) _ _
        (if_bind (λ x. Unit {0}) (λ x. P n x.0) (at_variable_brace (tail (tail cs))) _ (always (at_variable_brace (tail (tail cs)))) (λ close h. fits.of_var n _ _))
        (named_holds cs (tail cs) (after_name false (tail cs)) (omega (arith, tail_le cs (suc b) le, ends_le (tail cs) (after_name false (tail cs)) (name_end false (tail cs)))))

    bracket_holds : (cs : List ℕ) → length cs ≤ suc b → ReadsPart n (bracket_at size inner cs)
    bracket_holds cs le =
        if_bind (EndsWith (tail cs)) (λ x. P n x.0) (inner.bracket (tail cs)) _ (inside.bracket_end (tail cs))
        (λ close h. fits.of_bracket n _ _ (omega (arith, tail_less cs b le, length-take (length (tail cs) - length close) (tail cs))))

    -- the piece that begins here, whatever the word round it
    piece_holds : (m : Mode) (cs : List ℕ) → length cs ≤ suc b → GivesPart n (piece_at size inner m cs)
    unfolding piece_at kind_of
    piece_holds (mode.Bare nested) [] le = tt
    piece_holds mode.Quoted [] le = tt
    piece_holds mode.Index [] le = tt
    piece_holds m (c ∷ cs) le =
        let here = c ∷ cs in
        let R : Kind → Type 0 = λ k. GivesPart n (piece_of size inner m k here) in
        if_cond R (ends_pieces m here) _ _ tt
        (if_cond R (c == backslash) _ _ (fits.of_escape n _ _)
        (if_cond R (c == open_bracket) _ _
        (if_bind (λ x. P n x.0) (λ t. IfSome t.0 (P n)) (bracket_at size inner here) _ (bracket_holds here le) (λ x h. h))
        (if_cond R (c == dollar && begins_variable cs) _ _
        (if_bind (λ x. P n x.0) (λ t. IfSome t.0 (P n)) (variable_at size inner here) _ (variable_holds here le) (λ x h. h))
        (fits.of_text n _))))

    pieces_hold : (m : Mode) (cs : List ℕ) → length cs ≤ suc b → ReadsPieces n (pieces_at size inner m cs)
    unfolding pieces_at
    pieces_hold m cs le = turns_gather (P n) (Q n) (fits.pieces n) (piece_at size inner m) (piece_forward size inner inside m) (suc b) cs le (piece_holds m)

    quoted_holds : (cs : List ℕ) → length cs ≤ suc b → ReadsPieces n (quoted_at size inner cs)
    unfolding quoted_at
    quoted_holds cs le = if_bind (λ x. Q n x.0) (λ x. Q n x.0) (pieces_at size inner mode.Quoted (tail cs)) _ (pieces_hold mode.Quoted (tail cs) (tail_le cs (suc b) le)) (λ x h. h)

    closed_holds : (m : Syntax) (nested : Bool) (w : Shape) (rest : List ℕ) → Q n w.pieces → ReadsWord n (closed m nested w rest)
    closed_holds m nested w rest h = if_cond (ReadsWord n) (ends_word nested rest) (Ok (w, rest)) (Err m) h tt

    word_of_holds : (nested expands : Bool) (f : Form) (cs : List ℕ) → length cs ≤ suc b → ReadsWord n (word_of size inner nested expands f cs)
    word_of_holds nested expands form.Braced cs le = if_bind (λ x. Q n x.0) (λ x. Q n x.0.pieces) (braced_at size cs) _ (braced_holds n cs) (λ x h. closed_holds AfterBrace nested _ x.1 h)
    word_of_holds nested expands form.Quoted cs le = if_bind (λ x. Q n x.0) (λ x. Q n x.0.pieces) (quoted_at size inner cs) _ (quoted_holds cs le) (λ x h. closed_holds AfterQuote nested _ x.1 h)
    word_of_holds nested expands form.Bare cs le = if_bind (λ x. Q n x.0) (λ x. Q n x.0.pieces) (pieces_at size inner (mode.Bare nested) cs) _ (pieces_hold (mode.Bare nested) cs le) (λ x h. h)

    lone_holds : (cs : List ℕ) → length cs ≤ suc b → ReadsWord n (lone_at size inner cs)
    lone_holds cs le =
        if_bind (λ (x : Part × List ℕ). P n x.0) (λ (x : Shape × List ℕ). Q n x.0.pieces) _ _ (if_cond (ReadsPart n) (begins open_bracket cs) _ _ (bracket_holds cs le) (variable_holds cs le))
        (λ x h. (fits.pieces n).more x.0 [] h (fits.pieces n).empty)

    operand_holds : (cs : List ℕ) → length cs ≤ suc b → ReadsWord n (operand_at size inner cs)
    unfolding operand_at
    operand_holds cs le =
        if_cond (ReadsWord n) (begins open_brace cs) _ _ (if_bind (λ x. Q n x.0) (λ x. Q n x.0.pieces) (braced_at size cs) _ (braced_holds n cs) (λ x h. h))
        (if_cond (ReadsWord n) (begins quote cs) _ _ (if_bind (λ x. Q n x.0) (λ x. Q n x.0.pieces) (quoted_at size inner cs) _ (quoted_holds cs le) (λ x h. h)) (lone_holds cs le))

    word_holds : (nested : Bool) (cs : List ℕ) → length cs ≤ suc b → ReadsWord n (word_at size inner nested cs)
    unfolding word_at
    word_holds nested cs le =
        let third = tail (tail (tail cs)) in
        if_cond (ReadsWord n) (marked nested cs) _ _ (word_of_holds nested true (form_of third) third (tail_le (tail (tail cs)) (suc b) (tail_le (tail cs) (suc b) (tail_le cs (suc b) le)))) (word_of_holds nested false (form_of cs) cs le)

    next_holds : (nested : Bool) (cs : List ℕ) → length cs ≤ suc b → GivesWord n (next_word size inner nested cs)
    unfolding next_word
    next_holds nested cs le =
        let rest = after_blanks cs in
        if_cond (GivesWord n) (ends_word nested rest) _ _ tt
        (if_bind (λ x. Q n x.0.pieces) (λ t. IfSome t.0 (λ w. Q n w.pieces)) (word_at size inner nested rest) _ (word_holds nested rest (omega (arith, ends_le cs rest (blanks_end cs)))) (λ x h. h))

    words_hold : (nested : Bool) (cs : List ℕ) → length cs ≤ suc b → ReadsWords n (words_at size inner nested cs)
    unfolding words_at
    words_hold nested cs le = turns_gather (λ w. Q n w.pieces) (W n) (fits.words n) (next_word size inner nested) (word_forward size inner inside nested) (suc b) cs le (next_holds nested)

    -- a command whose words begin here, or none where the text ends
    command_holds : (nested : Bool) (rest : List ℕ) → length rest ≤ suc b → GivesWords n (if ends_word nested rest then Ok (None, rest) else (words_at size inner nested rest >>= λ words. Ok (Some words.0, after_command words.1)))
    command_holds nested rest le =
        if_cond (GivesWords n) (ends_word nested rest) _ _ tt
        (if_bind (λ x. W n x.0) (λ t. IfSome t.0 (W n)) (words_at size inner nested rest) _ (words_hold nested rest le) (λ x h. h))

    first_at_holds : (nested : Bool) (cs : List ℕ) → length cs ≤ suc b → GivesWords n (first_at size inner nested cs)
    unfolding first_at
    first_at_holds nested cs le = command_holds nested _ (end_le cs _ (suc b) (gaps_end _ cs) le)

  index_holds : (levels : ℕ) (cs : List ℕ) → length cs ≤ suc b → ReadsIndex levels ((inner_at size levels).index cs)
  unfolding inner_at
  index_holds zero cs le = tt
  index_holds (suc levels) cs le =
      if_bind (λ (x : List Part × List ℕ). Q levels x.0) (λ (x : Parts × List ℕ). (s name : Stretch) → P (suc levels) (elem_ s name x.0)) (pieces_at size (inner_at size levels) mode.Index cs) _
      (pieces_hold levels (inner_at size levels) (inner_inside size levels) (index_holds levels) mode.Index cs le) (λ x h s name. fits.of_elem levels s name x.0 h)

  pub operand_each : (levels : ℕ) (cs : List ℕ) → length cs ≤ suc b → IfOk (operand size levels cs) (λ x. Q levels x.0.pieces)
  unfolding operand
  operand_each levels cs le = operand_holds levels (inner_at size levels) (inner_inside size levels) (index_holds levels) cs le

  command_of : (n : ℕ) (r : Result (Option (List Shape) × List ℕ) Syntax) (ws : List Shape) (rest : List ℕ) → GivesWords n r → first_of r ≡ command ws rest → W n ws
  command_of n (Err m) ws rest h e = absurd cc
  command_of n (Ok (None, left)) ws rest h e = absurd cc
  command_of n (Ok (Some found, left)) ws rest h e =
      let same : found ≡ ws = cc in
      subst (W n) same h

  pub command_each : (levels : ℕ) (nested : Bool) (cs : List ℕ) (ws : List Shape) (rest : List ℕ) → length cs ≤ suc b → first size levels nested cs ≡ command ws rest → W levels ws
  unfolding first
  command_each levels nested cs ws rest le e =
      let inner = inner_at size levels in
      command_of levels (first_at size inner nested cs) ws rest (first_at_holds levels inner (inner_inside size levels) (index_holds levels) nested cs le) e
