-- Formals that are read one after another.
use Rattle.std.proofs.Common.{◌≡◌, ◌≤◌, true, false, true≢false, List, [], ◌∷◌, ◌++◌, length, map as each, Option, Ok, Err, refl, sym, ap, ◌∙◌, append_assoc, arith}
use Rattle.std.specs.declared.rc.RcStr.{RcStr}
use Rattle.std.proofs.lemmas.Bool.{cond-true, cond-false}
use Rattle.tcl_chars.specs.Messages.{about}
use Rattle.tcl_chars.specs.Texts.{literal, text_of}
use Rattle.tcl_pages.specs.Answers.{Answer, ◌>>=◌}
use Rattle.tcl_pages.specs.Texts.{Text}
use Rattle.tcl_meaning.specs.Procedures.{formals_by, formal_by, simple_formal, no_name}
use Rattle.tcl_meaning.specs.Names.{divided_name, is_element, is_global}
use Rattle.tcl_meaning.specs.State.{Formal}
use Rattle.tcl_list.specs.Elements.{elements_of}
use Rattle.tcl_procs.specs.Reading.{formal_of_text, in_front, is_empty}

pub no_name_there : (t : Text) (default : Option Text) → is_empty t ≡ true → simple_formal t default ≡ Err no_name
no_name_there [] default e = refl
no_name_there (c ∷ cs) default e = absurd (true≢false (sym e))

pub element_said : (t : Text) (default : Option Text) (said : Text) → is_empty t ≡ false → is_element (divided_name t).part ≡ true → said ≡ about (literal "formal parameter") t (literal " is an array element")
    → simple_formal t default ≡ Err said
element_said [] default said e h s = absurd (true≢false e)
element_said (c ∷ cs) default said e h s = cond-true _ _ _ h ∙ ap Err (sym s)

pub global_said : (t : Text) (default : Option Text) (said : Text) → is_empty t ≡ false → is_element (divided_name t).part ≡ false → is_global t ≡ true → said ≡ about (literal "formal parameter") t (literal " is not a simple name")
    → simple_formal t default ≡ Err said
global_said [] default said e h g s = absurd (true≢false e)
global_said (c ∷ cs) default said e h g s = cond-false _ _ _ h ∙ cond-true _ _ _ g ∙ ap Err (sym s)

pub many_fields : {Z : Type 0} (t : Text) (fields : List (RcStr Z)) → 3 ≤ length fields → formal_by t (each text_of fields) ≡ Err (about (literal "too many fields in argument specifier") t [])
many_fields t [] h = absurd (omega arith)
many_fields t (a ∷ []) h = absurd (omega arith)
many_fields t (a ∷ b ∷ []) h = absurd (omega arith)
many_fields t (a ∷ b ∷ c ∷ fields) h = refl

-- what is in front of others that come behind one
front_more : (fs : List Formal) (f : Formal) (more : Answer (List Formal)) → in_front fs (more >>= λ gs. Ok (f ∷ gs)) ≡ in_front (fs ++ f ∷ []) more
front_more fs f (Ok gs) = ap Ok (sym (append_assoc fs (f ∷ []) gs))
front_more fs f (Err m) = refl

reads_by : (fields : Answer (List Text)) (t : Text) (more : Answer (List Formal))
    → (fields >>= λ fields. formal_by t fields >>= λ f. more >>= λ gs. Ok (f ∷ gs)) ≡ ((fields >>= λ fields. formal_by t fields) >>= λ f. more >>= λ gs. Ok (f ∷ gs))
reads_by (Ok fields) t more = refl
reads_by (Err m) t more = refl

pub read_more : (fs : List Formal) (t : Text) (ts : List Text) (f : Formal) → formal_of_text t ≡ Ok f → in_front fs (formals_by (t ∷ ts)) ≡ in_front (fs ++ f ∷ []) (formals_by ts)
read_more fs t ts f h =
    ap (in_front fs) (reads_by (elements_of t) t (formals_by ts) ∙ ap (λ (r : Answer Formal). r >>= λ f. formals_by ts >>= λ gs. Ok (f ∷ gs)) h) ∙ front_more fs f (formals_by ts)

pub read_fails : (fs : List Formal) (t : Text) (ts : List Text) (m : Text) → formal_of_text t ≡ Err m → in_front fs (formals_by (t ∷ ts)) ≡ Err m
read_fails fs t ts m h =
    ap (in_front fs) (reads_by (elements_of t) t (formals_by ts) ∙ ap (λ (r : Answer Formal). r >>= λ f. formals_by ts >>= λ gs. Ok (f ∷ gs)) h)
