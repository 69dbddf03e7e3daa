-- An element's characters, with backslashes where they need them, read as a word.
use Rattle.std.proofs.Common.{◌≡◌, ℕ, Bool, true, false, ◌==◌, List, [], ◌∷◌, ◌++◌, Option, Some, None, option_map, Result, Ok, Err, sym, ap, ◌∙◌, subst, refl, arith, inl, inr, ◌⊎◌, append_assoc}
use Rattle.std.proofs.lemmas.Bool.Decides.{nat_tests}
use Rattle.tcl_chars.specs.Characters.{newline, backslash, quote, number_sign, dollar, open_bracket, open_brace}
use Rattle.tcl_chars.specs.Escape.{escape as escape_of}
use Rattle.tcl_chars.specs.Place.{EndsWith, before, begins}
use Rattle.tcl_chars.specs.Reading.{◌>>=◌, Reading, with_front, all_turns}
use Rattle.tcl_chars.proofs.Turns.{last_turn, one_turn, Shrinks}
use Rattle.tcl_laws.specs.OneCommand.{plain_value}
use Rattle.tcl_list.specs.Written.{behind_backslash, backslashed, all_escaped}
use Rattle.tcl_laws.proofs.BracedWord.{Word}
use Rattle.tcl_list.proofs.Complete.{before_rest}
use Rattle.tcl_list.proofs.Escapes.{says_again, SaysAgain, IsBare, bare_alone, sign_escape}
use Rattle.tcl_words.specs.declared.fault.Syntax.{Syntax}
use Rattle.tcl_words.specs.declared.word.Form.TheVariants as form
use Rattle.tcl_words.specs.Parts.{Stretch, Part, text, escape}
use Rattle.tcl_words.specs.Words.{after_plain, ends_word, inner_at, kind_of, piece_at, pieces_at, stretch, word_at, word_of}
use Rattle.tcl_chars.proofs.Ends.{forward_shrinks, if_ok}
use Rattle.tcl_words.proofs.Forward.{inner_inside, piece_forward, plain_end}

-- ---- the first character

-- a backslash ends no word, where no newline stands behind it
pub backslash_no_end : (nested : Bool) (b : ℕ) (cs : List ℕ) → (b == newline) ≡ false → ends_word nested (backslash ∷ b ∷ cs) ≡ false
backslash_no_end true b cs n = n
backslash_no_end false b cs n = n

-- what no kind of piece but plain text begins with
record IsPlain (c : ℕ) : Type 0 where
  hides : (c == backslash) ≡ false
  opens : (c == open_bracket) ≡ false
  names : (c == dollar) ≡ false

plain_bare : (c : ℕ) → IsBare c → IsPlain c
plain_bare c b = let special = b.special in record { hides = grind (arith, nat_tests); opens = grind (arith, nat_tests); names = grind (arith, nat_tests) }

bare_no_end : (nested : Bool) (c : ℕ) (cs : List ℕ) → IsBare c → ends_word nested (c ∷ cs) ≡ false
bare_no_end nested c cs b =
    let blank = b.solid in
    let special = b.special in
    grind (arith, nat_tests)

no_newline : (c b : ℕ) → behind_backslash c ≡ Some b → (b == newline) ≡ false
no_newline c b h = grind (arith, nat_tests)

-- ---- pieces

before_more : (c : ℕ) (cs rest : List ℕ) → EndsWith cs rest → before (c ∷ cs) rest ≡ c ∷ before cs rest
before_more c cs rest e =
    ap (λ t. before (c ∷ t) rest) e.joined ∙ sym (before_rest (c ∷ e.front) rest) ∙ ap (λ t. c ∷ t) (before_rest e.front rest ∙ ap (λ t. before t rest) (sym e.joined))

one_longer : (a b e : List ℕ) (c : ℕ) (o : Option (List ℕ)) → b ≡ c ∷ a → option_map (λ t. a ++ t) o ≡ Some e → option_map (λ t. b ++ t) o ≡ Some (c ∷ e)
one_longer a b e c None j h = absurd cc
one_longer a b e c (Some t) j h = let same : a ++ t ≡ e = cc in ap (λ x. Some (x ++ t)) j ∙ ap (λ x. Some (c ∷ x)) same

-- what pieces are read, and what they say
record Says (r : Result (List Part × List ℕ) Syntax) (e rest : List ℕ) : Type 0 where
  pieces : List Part
  read : r ≡ Ok (pieces, rest)
  value : plain_value pieces ≡ Some e

longer_text : (s t : Stretch) (c : ℕ) (q : Result (List Part × List ℕ) Syntax) (e rest : List ℕ) → t.text ≡ c ∷ s.text → Says (with_front (text s ∷ []) q) e rest
    → Says (with_front (text t ∷ []) q) (c ∷ e) rest
longer_text s t c (Err m) e rest j h = let no : with_front (text s ∷ []) (Err m) ≡ Ok (h.pieces, rest) = h.read in absurd cc
longer_text s t c (Ok (ps, left)) e rest j h =
    let same = if_ok (λ x. (text s ∷ ps ≡ x.0) × (left ≡ x.1)) (with_front (text s ∷ []) (Ok (ps, left))) (h.pieces, rest) (refl, refl) h.read in
    record {
      pieces = text t ∷ ps;
      read = ap (λ r. Ok (text t ∷ ps, r)) same.1;
      value = one_longer s.text t.text e c (plain_value ps) j (ap plain_value same.0 ∙ h.value);
    }

-- The mode in which the pieces of a bare word are read. It has no name outside its crate.
abbrev bare_mode : (size levels : ℕ) (nested : Bool) → (m : _) × ((cs : List ℕ) → word_of size (inner_at size levels) nested false form.Bare cs
    ≡ (pieces_at size (inner_at size levels) m cs >>= λ found. Ok (record { form = form.Bare; expands = false; pieces = found.0 }, found.1)))
bare_mode size levels nested = (_, λ cs. refl)

module _ (size levels : ℕ) (nested : Bool) where
  abbrev step : Reading Syntax (Option Part)
  step = piece_at size (inner_at size levels) (bare_mode size levels nested).0

  -- what is left behind plain characters
  abbrev left : List ℕ → List ℕ
  left = after_plain (bare_mode size levels nested).0

  shrinks : Shrinks step
  shrinks = forward_shrinks step (piece_forward size (inner_at size levels) (inner_inside size levels) (bare_mode size levels nested).0)

  stops : (rest : List ℕ) → ends_word nested rest ≡ true → (step rest ≡ Ok (None, rest)) × (left rest ≡ rest)
  unfolding piece_at kind_of after_plain
  stops [] h = (refl, refl)
  stops (c ∷ cs) h = (rw h refl, rw h refl)

  escape_turn : (b c : ℕ) (cs : List ℕ) → (b == newline) ≡ false → escape_of (backslash ∷ b ∷ cs) ≡ (c, 2)
      → step (backslash ∷ b ∷ cs) ≡ Ok (Some (escape (stretch size (backslash ∷ b ∷ cs) cs) c), cs)
  unfolding piece_at kind_of
  escape_turn b c cs n e = rw (backslash_no_end nested b cs n, e) refl

  escape_stops : (b : ℕ) (cs : List ℕ) → (b == newline) ≡ false → left (backslash ∷ b ∷ cs) ≡ backslash ∷ b ∷ cs
  unfolding kind_of after_plain
  escape_stops b cs n = rw (backslash_no_end nested b cs n) refl

  bare_goes_on : (c : ℕ) (cs : List ℕ) → IsBare c → left (c ∷ cs) ≡ left cs
  unfolding kind_of after_plain
  bare_goes_on c cs b = let p = plain_bare c b in rw (bare_no_end nested c cs b, p.hides, p.opens, p.names) refl

  bare_turn : (c : ℕ) (cs rest : List ℕ) → IsBare c → left cs ≡ rest → step (c ∷ cs) ≡ Ok (Some (text (stretch size (c ∷ cs) rest)), rest)
  unfolding piece_at kind_of
  bare_turn c cs rest b r = let p = plain_bare c b in rw (bare_no_end nested c cs b, p.hides, p.opens, p.names, bare_goes_on c cs b, r) refl

  -- ---- one character more

  -- How a plain character in front of a text goes on: not at all, or as the text that it begins with.
  abbrev Next : List ℕ → Type 0
  Next cs = (left cs ≡ cs) ⊎ (step cs ≡ Ok (Some (text (stretch size cs (left cs))), left cs))

  abbrev Said : List ℕ → List ℕ → List ℕ → Type 0
  Said cs e rest = Says (all_turns step cs) e rest × Next cs

  said_nothing : (rest : List ℕ) → ends_word nested rest ≡ true → Said rest [] rest
  said_nothing rest h = let s = stops rest h in (record { pieces = []; read = last_turn step rest rest s.0; value = refl }, inl s.1)

  says_escape : (b c : ℕ) (cs e rest : List ℕ) → (b == newline) ≡ false → escape_of (backslash ∷ b ∷ cs) ≡ (c, 2) → Says (all_turns step cs) e rest
      → Says (all_turns step (backslash ∷ b ∷ cs)) (c ∷ e) rest
  says_escape b c cs e rest n h s =
      let one = escape (stretch size (backslash ∷ b ∷ cs) cs) c in
      record {
        pieces = one ∷ s.pieces;
        read = one_turn step (backslash ∷ b ∷ cs) one cs shrinks (escape_turn b c cs n h) ∙ ap (with_front (one ∷ [])) s.read;
        value = ap (option_map (λ t. c ∷ t)) s.value;
      }

  says_bare : (c : ℕ) (cs e rest : List ℕ) → IsBare c → Says (all_turns step cs) e rest → Next cs → Says (all_turns step (c ∷ cs)) (c ∷ e) rest
  says_bare c cs e rest b s (inl stays) =
      let one = text (stretch size (c ∷ cs) cs) in
      record {
        pieces = one ∷ s.pieces;
        read = one_turn step (c ∷ cs) one cs shrinks (bare_turn c cs cs b stays) ∙ ap (with_front (one ∷ [])) s.read;
        value = ap (option_map (λ t. before (c ∷ cs) cs ++ t)) s.value ∙ ap (λ t. Some (t ++ e)) (sym (before_rest (c ∷ []) cs));
      }
  says_bare c cs e rest b s (inr goes) =
      let short = stretch size cs (left cs) in
      let long = stretch size (c ∷ cs) (left cs) in
      let P : Result (List Part × List ℕ) Syntax → Type 0 = λ r. Says r e rest in
      let Q : Result (List Part × List ℕ) Syntax → Type 0 = λ r. Says r (c ∷ e) rest in
      subst Q (sym (one_turn step (c ∷ cs) (text long) (left cs) shrinks (bare_turn c cs (left cs) b refl)))
      (longer_text short long c (all_turns step (left cs)) e rest (before_more c cs (left cs) (plain_end (bare_mode size levels nested).0 cs)) (subst P (one_turn step cs (text short) (left cs) shrinks goes) s))

  said_char : (c : ℕ) (cs e rest : List ℕ) (o : Option ℕ) → behind_backslash c ≡ o → SaysAgain c o → Said cs e rest → Said (backslashed c o ++ cs) (c ∷ e) rest
  said_char c cs e rest None o s h =
      let b = bare_alone c o in (says_bare c cs e rest b h.0 h.1, inr (bare_turn c cs (left (c ∷ cs)) b (sym (bare_goes_on c cs b))))
  said_char c cs e rest (Some b) o s h = let n = no_newline c b o in (says_escape b c cs e rest n (s cs) h.0, inl (escape_stops b cs n))

  said_all : (cs rest : List ℕ) → ends_word nested rest ≡ true → Said (all_escaped cs ++ rest) cs rest
  said_all [] rest h = said_nothing rest h
  said_all (c ∷ cs) rest h =
      subst (λ t. Said t (c ∷ cs) rest) (sym (append_assoc (backslashed c (behind_backslash c)) (all_escaped cs) rest))
      (said_char c (all_escaped cs ++ rest) cs rest (behind_backslash c) refl (says_again c) (said_all cs rest h))

  -- ---- the word

  -- a text at which a bare word begins
  pub record Starts (cs : List ℕ) : Type 0 where
    pub goes_on : ends_word nested cs ≡ false
    pub brace : begins open_brace cs ≡ false
    pub quot : begins quote cs ≡ false

  starts_bare : (c : ℕ) (cs : List ℕ) → IsBare c → Starts (c ∷ cs)
  starts_bare c cs b = let special = b.special in record { goes_on = bare_no_end nested c cs b; brace = grind (arith, nat_tests); quot = grind (arith, nat_tests) }

  starts_char : (c : ℕ) (cs : List ℕ) (o : Option ℕ) → behind_backslash c ≡ o → Starts (backslashed c o ++ cs)
  starts_char c cs None o = starts_bare c cs (bare_alone c o)
  starts_char c cs (Some b) o = record { goes_on = backslash_no_end nested b cs (no_newline c b o); brace = refl; quot = refl }

  pub starts : (c : ℕ) (cs rest : List ℕ) → Starts (all_escaped (c ∷ cs) ++ rest)
  starts c cs rest = subst Starts (sym (append_assoc (backslashed c (behind_backslash c)) (all_escaped cs) rest)) (starts_char c (all_escaped cs ++ rest) (behind_backslash c) refl)

  is_bare : (cs : List ℕ) → Starts cs → word_at size (inner_at size levels) nested cs ≡ word_of size (inner_at size levels) nested false form.Bare cs
  unfolding word_at
  is_bare cs b = rw (b.brace, b.quot) refl

  read_bare : (cs e rest : List ℕ) → Starts cs → Says (all_turns step cs) e rest → Word size levels nested cs e rest
  unfolding pieces_at
  read_bare cs e rest b s = record {
    word = record { form = form.Bare; expands = false; pieces = s.pieces };
    read = is_bare cs b ∙ ap (λ r. r >>= λ found. Ok (record { form = form.Bare; expands = false; pieces = found.0 }, found.1)) s.read;
    says = record { single = refl; value = s.value };
  }

  pub bare_word : (c : ℕ) (cs rest : List ℕ) → ends_word nested rest ≡ true → Word size levels nested (all_escaped (c ∷ cs) ++ rest) (c ∷ cs) rest
  bare_word c cs rest h = read_bare (all_escaped (c ∷ cs) ++ rest) (c ∷ cs) rest (starts c cs rest) (said_all (c ∷ cs) rest h).0

  -- a first number sign behind a backslash
  pub sign_word : (cs rest : List ℕ) → ends_word nested rest ≡ true → Word size levels nested (backslash ∷ number_sign ∷ (all_escaped cs ++ rest)) (number_sign ∷ cs) rest
  sign_word cs rest h =
      let b : Starts (backslash ∷ number_sign ∷ (all_escaped cs ++ rest)) = record { goes_on = backslash_no_end nested number_sign (all_escaped cs ++ rest) refl; brace = refl; quot = refl } in
      read_bare (backslash ∷ number_sign ∷ (all_escaped cs ++ rest)) (number_sign ∷ cs) rest b
      (says_escape number_sign number_sign (all_escaped cs ++ rest) cs rest refl (sign_escape (all_escaped cs ++ rest)) (said_all cs rest h).0)
