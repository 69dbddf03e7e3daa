-- A text reads as the elements that it spells, or has the fault that stands in it.
use Rattle.std.proofs.Common.{◌≡◌, ℕ, false, List, [], ◌∷◌, ◌++◌, Option, Some, None, Result, Ok, Err, ◌∙◌, subst, refl, inl, inr, ◌⊎◌}
use Rattle.tcl_chars.specs.Characters.{quote}
use Rattle.tcl_list.specs.Braces.{to_close}
use Rattle.tcl_list.specs.Elements.{braced, elements_of}
use Rattle.tcl_list.specs.Faults.{unmatched_brace}
use Rattle.tcl_list.specs.FirstFault.{ListFault}
use Rattle.tcl_list.specs.FirstFault as fault
use Rattle.tcl_list.specs.Laws.{ReadingIsSpelling, FaultIsFirst, OneList, ReadingOrFault}
use Rattle.tcl_list.specs.Spelling.{Reads}
use Rattle.tcl_list.specs.Spelling as spelling
use Rattle.tcl_list.specs.declared.reading.Closed.TheVariants as closed
use Rattle.tcl_list.specs.declared.reading.End.TheVariants.{Quote}
use Rattle.tcl_list.proofs.BraceFound.{Found, found_close}
use Rattle.tcl_list.proofs.Complete.{letters_read, braced_read, followed_bad, at_brace, at_quote, brace_is_solid, quote_is_solid, lost, spelled_next}
use Rattle.tcl_list.proofs.Lists.{past_space, no_elements, one_more_read, one_more_bad, one_fault}
use Rattle.tcl_list.proofs.Parts.{quote_open, quote_closed, brace_open}
use Rattle.tcl_list.proofs.Sound.{ListOf, list_of}

reads_back : (cs : List ℕ) (es : List (List ℕ)) → Reads cs es → elements_of cs ≡ Ok es
reads_back _ _ spelling.nothing = no_elements
reads_back _ _ (spelling.space c cs es s r) = past_space c cs s ∙ reads_back cs es r
reads_back _ _ (spelling.element cs e rest es s r) = one_more_read cs e rest es (spelled_next cs e rest s) (reads_back rest es r)

never_closed : (cs : List ℕ) (o : Option (List ℕ)) → to_close false 0 cs ≡ o → Found false 0 cs o → Found false 0 cs None → braced cs ≡ Err unmatched_brace
never_closed cs None e f n = brace_open cs e
never_closed cs (Some r) e f n = absurd (n f.0 f.1 f.4 f.3)

faults_back : (cs m : List ℕ) → ListFault cs m → elements_of cs ≡ Err m
faults_back _ _ (fault.space c cs m s f) = past_space c cs s ∙ faults_back cs m f
faults_back _ _ (fault.element cs e rest m s f) = one_more_bad cs e rest m (spelled_next cs e rest s) (faults_back rest m f)
faults_back _ _ (fault.no_brace c cs b n) =
    one_fault (c ∷ cs) _ (lost c cs _ (brace_is_solid c b) (at_brace c cs b ∙ never_closed cs (to_close false 0 cs) refl (found_close false 0 cs) n))
faults_back _ _ (fault.no_quote c cs e q l) =
    one_fault (c ∷ cs) _ (lost c cs _ (quote_is_solid c q) (at_quote c cs q ∙ quote_open cs e [] (letters_read Quote cs e [] l tt) refl))
faults_back _ _ (fault.behind_brace c d cs e x rest b i j s a) =
    one_fault (c ∷ cs) _ (lost c cs _ (brace_is_solid c b) (at_brace c cs b ∙ braced_read cs e (d ∷ (x ++ rest)) i j ∙ followed_bad closed.Brace e d x rest s a))
faults_back _ _ (fault.behind_quote c d cs e x rest q l s a) =
    one_fault (c ∷ cs) _ (lost c cs _ (quote_is_solid c q)
    (at_quote c cs q ∙ quote_closed cs e (quote ∷ d ∷ (x ++ rest)) (d ∷ (x ++ rest)) quote (letters_read Quote cs e (quote ∷ d ∷ (x ++ rest)) l refl) refl ∙ followed_bad closed.Quote e d x rest s a))

pub reading_is_spelling : ReadingIsSpelling
reading_is_spelling cs es = (λ e. subst (ListOf cs) e (list_of cs), reads_back cs es)

pub fault_is_first : FaultIsFirst
fault_is_first cs m = (λ e. subst (ListOf cs) e (list_of cs), faults_back cs m)

same_ok : (es fs : List (List ℕ)) (r : Result (List (List ℕ)) (List ℕ)) → r ≡ Ok es → r ≡ Ok fs → es ≡ fs
same_ok es fs r e f = cc

pub one_list : OneList
one_list cs es fs a b = same_ok es fs (elements_of cs) (reads_back cs es a) (reads_back cs fs b)

never_both : (es : List (List ℕ)) (m : List ℕ) (r : Result (List (List ℕ)) (List ℕ)) → r ≡ Ok es → r ≡ Err m → ⊥
never_both es m r e f = cc

either : (cs : List ℕ) (r : Result (List (List ℕ)) (List ℕ)) → ListOf cs r → ((es : List (List ℕ)) × Reads cs es) ⊎ ((m : List ℕ) × ListFault cs m)
either cs (Ok es) h = inl (es, h)
either cs (Err m) h = inr (m, h)

pub reading_or_fault : ReadingOrFault
reading_or_fault cs = (either cs (elements_of cs) (list_of cs), λ es m a b. never_both es m (elements_of cs) (reads_back cs es a) (faults_back cs m b))
