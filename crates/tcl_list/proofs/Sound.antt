-- What is read is spelled.
use Rattle.std.proofs.Common.{◌≡◌, ◌≢◌, ℕ, zero, suc, ◌<◌, ◌≤◌, ◌==◌, Bool, true, false, List, [], ◌∷◌, ◌++◌, length, drop, Option, Some, None, Result, Ok, Err, IfOk, sym, ap, ◌∙◌, subst, refl, arith}
use Rattle.std.proofs.lemmas.Bool.{cond-true, cond-false, cond_both, eqb-true, eqb-false}
use Rattle.tcl_chars.specs.Characters.{backslash, quote, open_brace, close_brace}
use Rattle.tcl_chars.specs.Classes.{is_list_space}
use Rattle.tcl_chars.specs.Escape.{escape}
use Rattle.tcl_chars.specs.Place.{before, tail}
use Rattle.tcl_chars.specs.Reading.{◌>>=◌, with_front}
use Rattle.tcl_chars.proofs.Turns.{last_turn, one_turn}
use Rattle.tcl_list.specs.Braces.{is_balanced, to_close}
use Rattle.tcl_list.specs.Elements.{ends, letter, letters, up_to_space, followed, unquoted, quoted, unbraced, braced, element, elements_of}
use Rattle.tcl_list.specs.Faults.{followed_by}
use Rattle.tcl_list.specs.FirstFault.{HasNoSpace, ListFault}
use Rattle.tcl_list.specs.FirstFault as fault
use Rattle.tcl_list.specs.Spelling.{Letters, none, plain, escaped, ElementEnds, Spells, Reads}
use Rattle.tcl_list.specs.Spelling as spelling
use Rattle.tcl_list.specs.declared.reading.Closed.{Closed}
use Rattle.tcl_list.specs.declared.reading.Closed.TheVariants as closed
use Rattle.tcl_list.specs.declared.reading.End.{End}
use Rattle.tcl_list.specs.declared.reading.End.TheVariants.{Space, Quote}
use Rattle.tcl_list.proofs.BraceFound.{Found, found_close}
use Rattle.tcl_list.proofs.Complete.{letter_at_end, letter_plain, letter_escaped, before_rest, lost, found}
use Rattle.tcl_list.proofs.Forward.{escape_shrinks, letter_shrinks, element_within}
use Rattle.tcl_list.proofs.Lists.{past_space, no_elements, prepend, one_more, one_fault}

-- ---- letters

abbrev LettersOf : End → List ℕ → Result (List ℕ × List ℕ) (List ℕ) → Type 0
LettersOf end cs (Ok x) = Letters end cs x.0 x.1 × ElementEnds end x.1
LettersOf end cs (Err m) = ⊥

one_plain : (end : End) (c : ℕ) (cs : List ℕ) (r : Result (List ℕ × List ℕ) (List ℕ)) → ends end c ≡ false → c ≢ backslash → LettersOf end cs r → LettersOf end (c ∷ cs) (with_front (c ∷ []) r)
one_plain end c cs (Ok x) e n h = (plain c cs x.0 x.1 e n h.0, h.1)
one_plain end c cs (Err m) e n h = h

one_escaped : (end : End) (c : ℕ) (cs : List ℕ) (r : Result (List ℕ × List ℕ) (List ℕ)) → c ≡ backslash → LettersOf end (drop (escape (c ∷ cs)).1 (c ∷ cs)) r → LettersOf end (c ∷ cs) (with_front ((escape (c ∷ cs)).0 ∷ []) r)
one_escaped end c cs (Ok x) e h = (escaped c cs x.0 x.1 e h.0, h.1)
one_escaped end c cs (Err m) e h = h

letters_by : (end : End) (c : ℕ) (cs : List ℕ) (stop back : Bool) → ends end c ≡ stop → (c == backslash) ≡ back → ((ds : List ℕ) → length ds ≤ length cs → LettersOf end ds (letters end ds)) → LettersOf end (c ∷ cs) (letters end (c ∷ cs))
unfolding letters
letters_by end c cs true back s b later =
    let e : letters end (c ∷ cs) ≡ Ok ([], c ∷ cs) = last_turn (letter end) (c ∷ cs) (c ∷ cs) (letter_at_end end (c ∷ cs) s) in
    subst (LettersOf end (c ∷ cs)) (sym e) (none (c ∷ cs), s)
letters_by end c cs false true s b later =
    let rest = drop (escape (c ∷ cs)).1 (c ∷ cs) in
    let e : letters end (c ∷ cs) ≡ with_front ((escape (c ∷ cs)).0 ∷ []) (letters end rest) = one_turn (letter end) (c ∷ cs) (escape (c ∷ cs)).0 rest (letter_shrinks end) (letter_escaped end c cs (eqb-true c backslash b)) in
    subst (LettersOf end (c ∷ cs)) (sym e) (one_escaped end c cs (letters end rest) (eqb-true c backslash b) (later rest (escape_shrinks c cs)))
letters_by end c cs false false s b later =
    let e : letters end (c ∷ cs) ≡ with_front (c ∷ []) (letters end cs) = one_turn (letter end) (c ∷ cs) c cs (letter_shrinks end) (letter_plain end c cs s (eqb-false c backslash b)) in
    subst (LettersOf end (c ∷ cs)) (sym e) (one_plain end c cs (letters end cs) s (eqb-false c backslash b) (later cs (omega arith)))

no_letters : (end : End) → letters end [] ≡ Ok ([], [])
unfolding letters
no_letters end = last_turn (letter end) [] [] refl

letters_below : (n : ℕ) (end : End) (cs : List ℕ) → length cs < n → LettersOf end cs (letters end cs)
letters_below zero end cs h = absurd (omega arith)
letters_below (suc n) end [] h = subst (LettersOf end []) (sym (no_letters end)) (none [], tt)
letters_below (suc n) end (c ∷ cs) h = letters_by end c cs (ends end c) (c == backslash) refl refl (λ ds l. letters_below n end ds (omega arith))

letters_of : (end : End) (cs : List ℕ) → LettersOf end cs (letters end cs)
letters_of end cs = letters_below (suc (length cs)) end cs (omega arith)

-- ---- what follows an element

record Word (cs : List ℕ) : Type 0 where
  rest : List ℕ
  joined : cs ≡ up_to_space cs ++ rest
  solid : HasNoSpace (up_to_space cs)
  apart : ElementEnds Space rest

word_by : (c : ℕ) (cs : List ℕ) (b : Bool) → is_list_space c ≡ b → Word cs → Word (c ∷ cs)
word_by c cs true s w =
    let e : up_to_space (c ∷ cs) ≡ [] = cond-true _ _ _ s in
    record { rest = c ∷ cs; joined = ap (λ t. t ++ c ∷ cs) (sym e); solid = subst HasNoSpace (sym e) tt; apart = s }
word_by c cs false s w =
    let e : up_to_space (c ∷ cs) ≡ c ∷ up_to_space cs = cond-false _ _ _ s in
    record { rest = w.rest; joined = ap (λ t. c ∷ t) w.joined ∙ ap (λ t. t ++ w.rest) (sym e); solid = subst HasNoSpace (sym e) (s, w.solid); apart = w.apart }

word_of : (cs : List ℕ) → Word cs
word_of [] = record { rest = []; joined = refl; solid = tt; apart = tt }
word_of (c ∷ cs) = word_by c cs (is_list_space c) refl (word_of cs)

-- something else than list space follows
record Stuck (close : Closed) (rest m : List ℕ) : Type 0 where
  first : ℕ
  word : List ℕ
  after : List ℕ
  joined : rest ≡ first ∷ (word ++ after)
  solid : HasNoSpace (first ∷ word)
  apart : ElementEnds Space after
  message : m ≡ followed_by close (first ∷ word)

abbrev FollowedOf : Closed → List ℕ → List ℕ → Result (List ℕ × List ℕ) (List ℕ) → Type 0
FollowedOf close e rest (Ok x) = (x.0 ≡ e) × (x.1 ≡ rest) × ElementEnds Space rest
FollowedOf close e rest (Err m) = Stuck close rest m

followed_by_case : (close : Closed) (e : List ℕ) (c : ℕ) (cs : List ℕ) (b : Bool) → is_list_space c ≡ b → FollowedOf close e (c ∷ cs) (followed close e (c ∷ cs))
followed_by_case close e c cs true s =
    let is : followed close e (c ∷ cs) ≡ Ok (e, c ∷ cs) = cond-true _ _ _ s in
    subst (FollowedOf close e (c ∷ cs)) (sym is) (refl, refl, s)
followed_by_case close e c cs false s =
    let is : followed close e (c ∷ cs) ≡ Err (followed_by close (up_to_space (c ∷ cs))) = cond-false _ _ _ s in
    let w = word_of cs in
    subst (FollowedOf close e (c ∷ cs)) (sym is)
    record { first = c; word = up_to_space cs; after = w.rest; joined = ap (λ t. c ∷ t) w.joined; solid = (s, w.solid); apart = w.apart; message = ap (followed_by close) (cond-false _ _ _ s) }

followed_of : (close : Closed) (e cs : List ℕ) → FollowedOf close e cs (followed close e cs)
followed_of close e [] = (refl, refl, tt)
followed_of close e (c ∷ cs) = followed_by_case close e c cs (is_list_space c) refl

-- ---- elements

abbrev PartOf : List ℕ → Result (List ℕ × List ℕ) (List ℕ) → Type 0
PartOf cs (Ok x) = Spells cs x.0 x.1
PartOf cs (Err m) = ListFault cs m

bare_of : (c : ℕ) (cs : List ℕ) (r : Result (List ℕ × List ℕ) (List ℕ)) → is_list_space c ≡ false → c ≢ open_brace → c ≢ quote → LettersOf Space (c ∷ cs) r → PartOf (c ∷ cs) r
bare_of c cs (Ok x) s b q h = spelling.bare c cs x.0 x.1 s b q h.0 h.1
bare_of c cs (Err m) s b q h = absurd h

quote_followed : (c : ℕ) (cs e rest : List ℕ) (r : Result (List ℕ × List ℕ) (List ℕ)) → c ≡ quote → Letters Quote cs e (quote ∷ rest) → FollowedOf closed.Quote e rest r → PartOf (c ∷ cs) r
quote_followed c cs e rest (Ok x) q l h =
    subst (λ t. Spells (c ∷ cs) t x.1) (sym h.0) (subst (λ t. Spells (c ∷ cs) e t) (sym h.1) (spelling.quoted c cs e rest q l h.2))
quote_followed c cs e rest (Err m) q l h =
    subst (ListFault (c ∷ cs)) (sym h.message) (fault.behind_quote c h.first cs e h.word h.after q (subst (λ t. Letters Quote cs e (quote ∷ t)) h.joined l) h.solid h.apart)

unquoted_of : (c : ℕ) (cs e rest : List ℕ) → c ≡ quote → Letters Quote cs e rest → ElementEnds Quote rest → PartOf (c ∷ cs) (unquoted e rest)
unquoted_of c cs e [] q l h = fault.no_quote c cs e q l
unquoted_of c cs e (d ∷ ds) q l h =
    quote_followed c cs e ds (followed closed.Quote e ds) q (subst (λ t. Letters Quote cs e (t ∷ ds)) (eqb-true d quote h) l) (followed_of closed.Quote e ds)

quoted_by : (c : ℕ) (cs : List ℕ) (r : Result (List ℕ × List ℕ) (List ℕ)) → c ≡ quote → LettersOf Quote cs r → PartOf (c ∷ cs) (r >>= λ x. unquoted x.0 x.1)
quoted_by c cs (Ok x) q h = unquoted_of c cs x.0 x.1 q h.0 h.1
quoted_by c cs (Err m) q h = absurd h

quoted_of : (c : ℕ) (cs : List ℕ) → c ≡ quote → PartOf (c ∷ cs) (quoted cs)
unfolding quoted
quoted_of c cs q = quoted_by c cs (letters Quote cs) q (letters_of Quote cs)

brace_followed : (c : ℕ) (cs e rest : List ℕ) (r : Result (List ℕ × List ℕ) (List ℕ)) → c ≡ open_brace → is_balanced e ≡ true → cs ≡ e ++ close_brace ∷ rest → FollowedOf closed.Brace e rest r → PartOf (c ∷ cs) r
brace_followed c cs e rest (Ok x) b i j h =
    subst (λ t. Spells (c ∷ cs) t x.1) (sym h.0) (subst (λ t. Spells (c ∷ cs) e t) (sym h.1) (spelling.braced c cs e rest b i j h.2))
brace_followed c cs e rest (Err m) b i j h =
    subst (ListFault (c ∷ cs)) (sym h.message) (fault.behind_brace c h.first cs e h.word h.after b i (j ∙ ap (λ t. e ++ close_brace ∷ t) h.joined) h.solid h.apart)

braced_by : (c : ℕ) (cs : List ℕ) (o : Option (List ℕ)) → c ≡ open_brace → Found false 0 cs o → PartOf (c ∷ cs) (unbraced cs o)
braced_by c cs None b h = fault.no_brace c cs b h
braced_by c cs (Some r) b h =
    let inner : h.0 ≡ before cs r = before_rest h.0 (close_brace ∷ h.1) ∙ ap (λ t. before t (close_brace ∷ h.1)) (sym h.3) ∙ ap (before cs) (sym h.2) in
    let same : followed closed.Brace h.0 h.1 ≡ followed closed.Brace (before cs r) (tail r) = ap (λ t. followed closed.Brace t h.1) inner ∙ ap (λ t. followed closed.Brace (before cs r) (tail t)) (sym h.2) in
    subst (PartOf (c ∷ cs)) same (brace_followed c cs h.0 h.1 (followed closed.Brace h.0 h.1) b h.4 h.3 (followed_of closed.Brace h.0 h.1))

braced_of : (c : ℕ) (cs : List ℕ) → c ≡ open_brace → PartOf (c ∷ cs) (braced cs)
unfolding braced
braced_of c cs b = braced_by c cs (to_close false 0 cs) b (found_close false 0 cs)

element_of : (c : ℕ) (cs : List ℕ) → is_list_space c ≡ false → PartOf (c ∷ cs) (element c cs)
element_of c cs s =
    cond_both (c == open_brace) _ _ (PartOf (c ∷ cs)) (λ b. braced_of c cs (eqb-true c open_brace b))
    (λ b. cond_both (c == quote) _ _ (PartOf (c ∷ cs)) (λ q. quoted_of c cs (eqb-true c quote q))
    (λ q. bare_of c cs (letters Space (c ∷ cs)) s (eqb-false c open_brace b) (eqb-false c quote q) (letters_of Space (c ∷ cs))))

-- ---- lists

abbrev pub ListOf : List ℕ → Result (List (List ℕ)) (List ℕ) → Type 0
ListOf cs (Ok es) = Reads cs es
ListOf cs (Err m) = ListFault cs m

spaced : (c : ℕ) (cs : List ℕ) (r : Result (List (List ℕ)) (List ℕ)) → is_list_space c ≡ true → ListOf cs r → ListOf (c ∷ cs) r
spaced c cs (Ok es) s h = spelling.space c cs es s h
spaced c cs (Err m) s h = fault.space c cs m s h

behind : (cs e rest : List ℕ) (r : Result (List (List ℕ)) (List ℕ)) → Spells cs e rest → ListOf rest r → ListOf cs (prepend e r)
unfolding prepend
behind cs e rest (Ok es) s h = spelling.element cs e rest es s h
behind cs e rest (Err m) s h = fault.element cs e rest m s h

by_element : (c : ℕ) (cs : List ℕ) (r : Result (List ℕ × List ℕ) (List ℕ)) → is_list_space c ≡ false → element c cs ≡ r → PartOf (c ∷ cs) r → IfOk r (λ x. length x.1 ≤ length cs)
    → ((ds : List ℕ) → length ds ≤ length cs → ListOf ds (elements_of ds)) → ListOf (c ∷ cs) (elements_of (c ∷ cs))
by_element c cs (Ok x) s e p l later =
    subst (ListOf (c ∷ cs)) (sym (one_more (c ∷ cs) x.0 x.1 (found c cs x.0 x.1 s e))) (behind (c ∷ cs) x.0 x.1 (elements_of x.1) p (later x.1 l))
by_element c cs (Err m) s e p l later = subst (ListOf (c ∷ cs)) (sym (one_fault (c ∷ cs) m (lost c cs m s e))) p

list_by : (c : ℕ) (cs : List ℕ) (b : Bool) → is_list_space c ≡ b → ((ds : List ℕ) → length ds ≤ length cs → ListOf ds (elements_of ds)) → ListOf (c ∷ cs) (elements_of (c ∷ cs))
list_by c cs true s later = subst (ListOf (c ∷ cs)) (sym (past_space c cs s)) (spaced c cs (elements_of cs) s (later cs (omega arith)))
list_by c cs false s later = by_element c cs (element c cs) s refl (element_of c cs s) (element_within c cs s) later

list_below : (n : ℕ) (cs : List ℕ) → length cs < n → ListOf cs (elements_of cs)
list_below zero cs h = absurd (omega arith)
list_below (suc n) [] h = subst (ListOf []) (sym no_elements) spelling.nothing
list_below (suc n) (c ∷ cs) h = list_by c cs (is_list_space c) refl (λ ds l. list_below n ds (omega arith))

pub list_of : (cs : List ℕ) → ListOf cs (elements_of cs)
list_of cs = list_below (suc (length cs)) cs (omega arith)
