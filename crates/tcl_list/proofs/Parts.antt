-- The readings of elements, a case at a time.
use Rattle.std.proofs.Common.{◌≡◌, ℕ, false, List, [], ◌∷◌, Some, None, Result, Ok, Err, sym, ap, ◌∙◌, subst}
use Rattle.tcl_chars.specs.Place.{before, tail}
use Rattle.tcl_chars.specs.Reading.{◌>>=◌, Fails, all_turns, with_front}
use Rattle.tcl_chars.specs.Whole.{skip_space}
use Rattle.tcl_chars.specs.declared.fault.ReadFault.{ReadFault}
use Rattle.tcl_chars.specs.declared.fault.ReadFault.TheVariants as fault
use Rattle.tcl_chars.proofs.Turns.{bad_turn, is_done}
use Rattle.tcl_list.specs.Braces.{to_close}
use Rattle.tcl_list.specs.Faults.{unmatched_brace, unmatched_quote}
use Rattle.tcl_list.specs.Elements.{letters, followed, unquoted, quoted, unbraced, braced, element, first_element, next_element, elements_of}
use Rattle.tcl_list.specs.declared.reading.End.TheVariants.{Quote}
use Rattle.tcl_list.specs.declared.reading.Closed.TheVariants as closed

-- a fault of the first reading is a fault of the two
pub fails_before : {A B E : Type 0} (e : ReadFault E) (r : Result A E) (next : A → Result B E) → Fails e r → Fails e (r >>= next)
fails_before (fault.Bad m) r next h = ap (λ t. t >>= next) h
fails_before fault.Memory r next h = tt

pub quote_open : (cs e rest : List ℕ) → letters Quote cs ≡ Ok (e, rest) → rest ≡ [] → quoted cs ≡ Err unmatched_quote
unfolding quoted
quote_open cs e rest h r = ap (λ t. t >>= λ x. unquoted x.0 x.1) h ∙ ap (unquoted e) r

pub quote_closed : (cs e rest after : List ℕ) (q : ℕ) → letters Quote cs ≡ Ok (e, rest) → rest ≡ q ∷ after → quoted cs ≡ followed closed.Quote e after
unfolding quoted
quote_closed cs e rest after q h r = ap (λ t. t >>= λ x. unquoted x.0 x.1) h ∙ ap (unquoted e) r

pub brace_open : (cs : List ℕ) → to_close false 0 cs ≡ None → braced cs ≡ Err unmatched_brace
unfolding braced
brace_open cs h = ap (unbraced cs) h

pub brace_closed : (cs rest e after : List ℕ) → to_close false 0 cs ≡ Some rest → e ≡ before cs rest → after ≡ tail rest → braced cs ≡ followed closed.Brace e after
unfolding braced
brace_closed cs rest e after h i t = ap (unbraced cs) h ∙ ap (λ x. followed closed.Brace x (tail rest)) (sym i) ∙ ap (followed closed.Brace e) (sym t)

pub nothing_left : (cs start : List ℕ) → start ≡ skip_space cs → start ≡ [] → next_element cs ≡ Ok (None, start)
unfolding next_element
nothing_left cs start s e = ap first_element (sym s ∙ e) ∙ ap (λ t. Ok (None, t)) (sym e)

at_element : (cs start after : List ℕ) (c : ℕ) → start ≡ skip_space cs → start ≡ c ∷ after → next_element cs ≡ (element c after >>= λ x. Ok (Some x.0, x.1))
unfolding next_element
at_element cs start after c s e = ap first_element (sym s ∙ e)

pub one_element : (cs start after e rest : List ℕ) (c : ℕ) → start ≡ skip_space cs → start ≡ c ∷ after → element c after ≡ Ok (e, rest) → next_element cs ≡ Ok (Some e, rest)
one_element cs start after e rest c s b h = at_element cs start after c s b ∙ ap (λ r. r >>= λ x. Ok (Some x.0, x.1)) h

pub element_stops : (cs start after : List ℕ) (c : ℕ) (f : ReadFault (List ℕ)) → start ≡ skip_space cs → start ≡ c ∷ after → Fails f (element c after) → Fails f (next_element cs)
element_stops cs start after c f s b h = subst (Fails f) (sym (at_element cs start after c s b)) (fails_before f (element c after) (λ x. Ok (Some x.0, x.1)) h)

-- a loop over elements ends: at a fault, and where nothing is left
pub list_stops : (f : ReadFault (List ℕ)) (found : List (List ℕ)) (rest cs : List ℕ) → Fails f (next_element rest) → with_front found (all_turns next_element rest) ≡ all_turns next_element cs → Fails f (elements_of cs)
unfolding elements_of
list_stops (fault.Bad m) found rest cs h same = ap (λ t. t >>= λ x. Ok x.0) (sym same ∙ ap (with_front found) (bad_turn next_element rest m h))
list_stops fault.Memory found rest cs h same = tt

pub list_done : (found : List (List ℕ)) (rest left cs : List ℕ) → next_element rest ≡ Ok (None, left) → with_front found (all_turns next_element rest) ≡ all_turns next_element cs → elements_of cs ≡ Ok found
unfolding elements_of
list_done found rest left cs h same = ap (λ t. t >>= λ x. Ok x.0) (is_done next_element found rest left (all_turns next_element cs) h same)
