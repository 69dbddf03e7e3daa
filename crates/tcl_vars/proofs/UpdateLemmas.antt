-- A variable's new text, made of the old one: the words, and how the command ends.
use Rattle.std.proofs.Common.{◌≡◌, ℕ, ◌+◌, ◌≤◌, List, [], ◌∷◌, ◌++◌, length, drop, get_or, Result, Ok, Err, refl, sym, ap, subst, ◌∙◌, arith}
use Rattle.tcl_chars.specs.Answers.{Stops}
use Rattle.tcl_chars.specs.Texts.{literal, text_of}
use Rattle.tcl_chars.specs.declared.fault.Fault.{Fault}
use Rattle.tcl_chars.specs.declared.fault.Fault.TheVariants as fault
use Rattle.tcl_chars.specs.declared.numbers.Dialect.{Dialect}
use Rattle.tcl_pages.specs.Answers.{Answer}
use Rattle.tcl_pages.specs.Texts.{Text}
use Rattle.tcl_pages.specs.Updates.{Old, begins, is_read, must_be_there, Update, of_name, update_words, old_of, updated}
use Rattle.tcl_pages.specs.Usage.{usage_text}
use Rattle.tcl_pages.specs.declared.pages.UpdatePage.{UpdatePage}
use Rattle.tcl_pages.specs.declared.pages.UpdatePage.TheVariants as page
use Rattle.tcl_meaning.specs.declared.refusal.Refusal.{Refusal}
use Rattle.tcl_meaning.specs.Asking.{Asks, done}
use Rattle.tcl_meaning.specs.Completions.{Completion, normal, failure}
use Rattle.tcl_meaning.specs.Effects.{Plain, Give, does}
use Rattle.tcl_meaning.specs.State.{Commands}
use Rattle.tcl_meaning.specs.Tasks.{Done}
use Rattle.tcl_meaning.specs.Value.{Value, Has, Fails, ◌>>=◌, judged}
use Rattle.tcl_meaning.specs.Variables.{get, set}
use Rattle.tcl_meaning.specs.VariablePages.{old_text, update_page}
use Rattle.tcl_frames.specs.Standing.{Standing, store_of, with_put}
use Rattle.tcl_steps.proofs.Endings.{has_on, fails_on}
use Rattle.tcl_vars.proofs.PutLemmas.{put_again, put_gives}
use Rattle.tcl_steps.specs.Comes.{Becomes, Comes, state_of}
use Rattle.tcl_steps.specs.Ends.{Ends, EndsDone, Gives, stop_of}
use Rattle.tcl_vars.specs.Updating.{AddsOne, Fits, usage_of, IsTaken, becomes, from_old, on_variable}
use Rattle.tcl_steps.specs.declared.stop.Stop.{Stop}
use Rattle.tcl_steps.specs.declared.stop.Stop.TheVariants as stop

-- ---- the words

pub words_refused : (p : UpdatePage) (ws : List Text) → (Fits p (length ws) → ⊥) → update_words p ws ≡ Err (usage_text (usage_of p))
words_refused page.Append [] h = refl
words_refused page.Append (a ∷ ws) h = absurd (h (omega arith))
words_refused page.Incr [] h = refl
words_refused page.Incr (a ∷ []) h = absurd (h (omega arith, omega arith))
words_refused page.Incr (a ∷ b ∷ []) h = absurd (h (omega arith, omega arith))
words_refused page.Incr (a ∷ b ∷ c ∷ ws) h = refl
words_refused page.Lappend [] h = refl
words_refused page.Lappend (a ∷ ws) h = absurd (h (omega arith))
words_refused page.Lset [] h = refl
words_refused page.Lset (a ∷ []) h = refl
words_refused page.Lset (a ∷ b ∷ ws) h = absurd (h (omega arith))
words_refused page.DictAppend [] h = refl
words_refused page.DictAppend (a ∷ []) h = refl
words_refused page.DictAppend (a ∷ b ∷ ws) h = absurd (h (omega arith))
words_refused page.DictIncr [] h = refl
words_refused page.DictIncr (a ∷ []) h = refl
words_refused page.DictIncr (a ∷ b ∷ []) h = absurd (h (omega arith, omega arith))
words_refused page.DictIncr (a ∷ b ∷ c ∷ []) h = absurd (h (omega arith, omega arith))
words_refused page.DictIncr (a ∷ b ∷ c ∷ d ∷ ws) h = refl
words_refused page.DictLappend [] h = refl
words_refused page.DictLappend (a ∷ []) h = refl
words_refused page.DictLappend (a ∷ b ∷ ws) h = absurd (h (omega arith))
words_refused page.DictSet [] h = refl
words_refused page.DictSet (a ∷ []) h = refl
words_refused page.DictSet (a ∷ b ∷ []) h = refl
words_refused page.DictSet (a ∷ b ∷ c ∷ ws) h = absurd (h (omega arith))
words_refused page.DictUnset [] h = refl
words_refused page.DictUnset (a ∷ []) h = refl
words_refused page.DictUnset (a ∷ b ∷ ws) h = absurd (h (omega arith))

pub words_taken : (p : UpdatePage) (ws : List Text) → Fits p (length ws) → (AddsOne p (length ws) → ⊥) → update_words p ws ≡ of_name (get_or ws 0 []) (drop 1 ws)
words_taken page.Append [] h k = absurd (omega arith)
words_taken page.Append (a ∷ ws) h k = refl
words_taken page.Incr [] h k = absurd (omega (arith, h.0))
words_taken page.Incr (a ∷ []) h k = absurd (k refl)
words_taken page.Incr (a ∷ b ∷ []) h k = refl
words_taken page.Incr (a ∷ b ∷ c ∷ ws) h k = absurd (omega (arith, h.1))
words_taken page.Lappend [] h k = absurd (omega arith)
words_taken page.Lappend (a ∷ ws) h k = refl
words_taken page.Lset [] h k = absurd (omega arith)
words_taken page.Lset (a ∷ []) h k = absurd (omega arith)
words_taken page.Lset (a ∷ b ∷ ws) h k = refl
words_taken page.DictAppend [] h k = absurd (omega arith)
words_taken page.DictAppend (a ∷ []) h k = absurd (omega arith)
words_taken page.DictAppend (a ∷ b ∷ ws) h k = refl
words_taken page.DictIncr [] h k = absurd (omega (arith, h.0))
words_taken page.DictIncr (a ∷ []) h k = absurd (omega (arith, h.0))
words_taken page.DictIncr (a ∷ b ∷ []) h k = absurd (k refl)
words_taken page.DictIncr (a ∷ b ∷ c ∷ []) h k = refl
words_taken page.DictIncr (a ∷ b ∷ c ∷ d ∷ ws) h k = absurd (omega (arith, h.1))
words_taken page.DictLappend [] h k = absurd (omega arith)
words_taken page.DictLappend (a ∷ []) h k = absurd (omega arith)
words_taken page.DictLappend (a ∷ b ∷ ws) h k = refl
words_taken page.DictSet [] h k = absurd (omega arith)
words_taken page.DictSet (a ∷ []) h k = absurd (omega arith)
words_taken page.DictSet (a ∷ b ∷ []) h k = absurd (omega arith)
words_taken page.DictSet (a ∷ b ∷ c ∷ ws) h k = refl
words_taken page.DictUnset [] h k = absurd (omega arith)
words_taken page.DictUnset (a ∷ []) h k = absurd (omega arith)
words_taken page.DictUnset (a ∷ b ∷ ws) h k = refl

pub words_with_one : (p : UpdatePage) (ws : List Text) → AddsOne p (length ws) → update_words p ws ≡ of_name (get_or ws 0 []) (drop 1 ws ++ literal "1" ∷ [])
words_with_one page.Append ws k = absurd k
words_with_one page.Incr [] k = absurd (omega arith)
words_with_one page.Incr (a ∷ []) k = refl
words_with_one page.Incr (a ∷ b ∷ ws) k = absurd (omega arith)
words_with_one page.Lappend ws k = absurd k
words_with_one page.Lset ws k = absurd k
words_with_one page.DictAppend ws k = absurd k
words_with_one page.DictIncr [] k = absurd (omega arith)
words_with_one page.DictIncr (a ∷ []) k = absurd (omega arith)
words_with_one page.DictIncr (a ∷ b ∷ []) k = refl
words_with_one page.DictIncr (a ∷ b ∷ c ∷ ws) k = absurd (omega arith)
words_with_one page.DictLappend ws k = absurd k
words_with_one page.DictSet ws k = absurd k
words_with_one page.DictUnset ws k = absurd k

pub some_word : (p : UpdatePage) (n : ℕ) → Fits p n → 1 ≤ n
some_word page.Append n h = omega arith
some_word page.Incr n h = h.0
some_word page.Lappend n h = omega arith
some_word page.Lset n h = omega arith
some_word page.DictAppend n h = omega arith
some_word page.DictIncr n h = omega (arith, h.0)
some_word page.DictLappend n h = omega arith
some_word page.DictSet n h = omega arith
some_word page.DictUnset n h = omega arith

pub taken_behind : (p : UpdatePage) (n m : ℕ) → Fits p n → (AddsOne p n → ⊥) → m + 1 ≡ n → IsTaken p m
taken_behind page.Append n m h k e = tt
taken_behind page.Incr n m h k e = tt
taken_behind page.Lappend n m h k e = tt
taken_behind page.Lset n m h k e = tt
taken_behind page.DictAppend n m h k e = tt
taken_behind page.DictIncr n m h k e = omega (arith, h.0, h.1, k)
taken_behind page.DictLappend n m h k e = tt
taken_behind page.DictSet n m h k e = omega arith
taken_behind page.DictUnset n m h k e = omega arith

pub taken_with_one : (p : UpdatePage) (n m : ℕ) → AddsOne p n → m ≡ n → IsTaken p m
taken_with_one page.Append n m k e = tt
taken_with_one page.Incr n m k e = tt
taken_with_one page.Lappend n m k e = tt
taken_with_one page.Lset n m k e = tt
taken_with_one page.DictAppend n m k e = tt
taken_with_one page.DictIncr n m k e = omega arith
taken_with_one page.DictLappend n m k e = tt
taken_with_one page.DictSet n m k e = absurd k
taken_with_one page.DictUnset n m k e = absurd k

pub page_is : (d : Dialect) (p : UpdatePage) (ws vs : List Text) (name : Text) → update_words p ws ≡ of_name name vs → update_page d p ws ≡ on_variable d p name vs
unfolding update_page
page_is d p ws vs name e = ap (λ (r : Answer Update). judged r >>= λ w. on_variable d p w.name w.words) e

pub page_refused : (d : Dialect) (p : UpdatePage) (ws : List Text) (message : Text) (f : Standing) → update_words p ws ≡ Err message → Comes (update_page d p ws) f (Fails (failure message)) f
unfolding update_page
page_refused d p ws message f e =
    subst (λ (r : Answer Update). Comes (judged r >>= λ w. on_variable d p w.name w.words) f (Fails (failure message)) f) (sym e) (record { same = λ cs ch n. refl })

-- ---- the old text

old_given : (o : Old) (name t : Text) → old_text o name (Ok t) ≡ Give (Has t)
old_given (begins first) name t = refl
old_given is_read name t = refl
old_given must_be_there name t = refl

looked : (d : Dialect) (p : UpdatePage) (name : Text) (ws : List Text) (f g : Standing) (q : Asks) (r : Result Text Refusal) → ((cs : Commands) → get (store_of cs f) name ≡ r)
    → Becomes (old_text (old_of p ws) name r >>= from_old d p name ws) f q g → Becomes (on_variable d p name ws) f q g
looked d p name ws f g q r h b =
    record { same = λ cs ch n. ap (λ (x : Result Text Refusal). does (old_text (old_of p ws) name x >>= from_old d p name ws) (state_of cs ch n f)) (h cs) ∙ b.same cs ch n }

pub missed : (d : Dialect) (p : UpdatePage) (name : Text) (ws : List Text) (f g : Standing) (refusal : Refusal) (r : Result Completion Stop) → ((cs : Commands) → get (store_of cs f) name ≡ Err refusal)
    → EndsDone (old_text (old_of p ws) name (Err refusal) >>= from_old d p name ws) f r g → EndsDone (on_variable d p name ws) f r g
missed d p name ws f g refusal (Ok c) h b = looked d p name ws f g (Give (Has (Done c))) (Err refusal) h b
missed d p name ws f g refusal (Err (stop.Error c)) h b = looked d p name ws f g (Give (Fails c)) (Err refusal) h b
missed d p name ws f g refusal (Err stop.Memory) h b = tt

pub found : (d : Dialect) (p : UpdatePage) (name : Text) (ws : List Text) (f g : Standing) (q : Asks) (t : Text) → ((cs : Commands) → get (store_of cs f) name ≡ Ok t)
    → Becomes (from_old d p name ws t) f q g → Becomes (on_variable d p name ws) f q g
found d p name ws f g q t h b =
    looked d p name ws f g q (Ok t) h (subst (λ (o : Plain (Value Text)). Becomes (o >>= from_old d p name ws) f q g) (sym (old_given (old_of p ws) name t)) b)

-- ---- the new text

pub is_set : (name t : Text) (answer : Answer Text) (f g : Standing) → answer ≡ Ok t → Comes (set name t) f (Has tt) g → Comes (becomes name answer) f (Has (Done (normal t))) g
is_set name t answer f g e k = subst (λ (r : Answer Text). Comes (becomes name r) f (Has (Done (normal t))) g) (sym e) (has_on (set name t) (λ u. done (normal t)) f g tt k)

pub isnt_set : (name t : Text) (answer : Answer Text) (f g : Standing) (s : Stop) → answer ≡ Ok t → Ends (set name t) f (Err s) g → EndsDone (becomes name answer) f (Err s) g
isnt_set name t answer f g (stop.Error c) e k = subst (λ (r : Answer Text). Comes (becomes name r) f (Fails c) g) (sym e) (fails_on (set name t) (λ u. done (normal t)) f g c k)
isnt_set name t answer f g stop.Memory e k = tt

pub isnt_made : (name : Text) (answer : Answer Text) (f : Standing) (fault : Fault) → Stops fault answer → EndsDone (becomes name answer) f (Err (stop_of fault)) f
isnt_made name answer f (fault.Error message) e = subst (λ (r : Answer Text). Comes (becomes name r) f (Fails (failure (text_of message))) f) (sym e) (record { same = λ cs ch n. refl })
isnt_made name answer f fault.Memory e = tt

-- ---- a variable that has a text

pub changed_in_place : (d : Dialect) (p : UpdatePage) (name : Text) (ws : List Text) (f : Standing) (t new : Text) → ((cs : Commands) → get (store_of cs f) name ≡ Ok t) → updated d p t ws ≡ Ok new
    → Comes (on_variable d p name ws) f (Has (Done (normal new))) (with_put f name new)
changed_in_place d p name ws f t new h e =
    found d p name ws f (with_put f name new) (Give (Has (Done (normal new)))) t h (is_set name new (updated d p t ws) f (with_put f name new) e (put_gives f name t new h))

at_found : (d : Dialect) (p : UpdatePage) (name : Text) (ws : List Text) (f g : Standing) (t : Text) (s : Stop) → ((cs : Commands) → get (store_of cs f) name ≡ Ok t)
    → EndsDone (from_old d p name ws t) f (Err s) g → EndsDone (on_variable d p name ws) f (Err s) g
at_found d p name ws f g t (stop.Error c) h b = found d p name ws f g (Give (Fails c)) t h b
at_found d p name ws f g t stop.Memory h b = tt

pub left_in_place : (d : Dialect) (p : UpdatePage) (name : Text) (ws : List Text) (f : Standing) (t new : Text) (fault : Fault) → (cs : Commands) → ((cs : Commands) → get (store_of cs f) name ≡ Ok t) → Stops fault (updated d p t ws) → new ≡ t
    → EndsDone (on_variable d p name ws) f (Err (stop_of fault)) (with_put f name new)
left_in_place d p name ws f t new fault cs h e same =
    subst (λ (g : Standing). EndsDone (on_variable d p name ws) f (Err (stop_of fault)) g) (sym (ap (with_put f name) same ∙ put_again cs f name t (h cs)))
    (at_found d p name ws f f t (stop_of fault) h (isnt_made name (updated d p t ws) f fault e))

-- ---- a variable that has none

module _ (o : Plain (Value Text)) (k : Text → Asks) (f g : Standing) where
  pub first_is : (t : Text) (c : Completion) → o ≡ Give (Has t) → Comes (k t) f (Has (Done c)) g → Comes (o >>= k) f (Has (Done c)) g
  first_is t c e b = subst (λ (x : Plain (Value Text)). Comes (x >>= k) f (Has (Done c)) g) (sym e) b

  pub first_stops : (t : Text) (s : Stop) → o ≡ Give (Has t) → EndsDone (k t) f (Err s) g → EndsDone (o >>= k) f (Err s) g
  first_stops t s e b = subst (λ (x : Plain (Value Text)). EndsDone (x >>= k) f (Err s) g) (sym e) b

pub no_first : (o : Plain (Value Text)) (k : Text → Asks) (f : Standing) (s : Stop) → Gives o (Err s) → EndsDone (o >>= k) f (Err s) f
no_first o k f (stop.Error c) e = subst (λ (x : Plain (Value Text)). Comes (x >>= k) f (Fails c) f) (sym e) (record { same = λ cs ch n. refl })
no_first o k f stop.Memory e = tt

-- ---- the whole page

by_words : (d : Dialect) (p : UpdatePage) (ws vs us : List Text) (name : Text) (f g : Standing) (r : Result Completion Stop) → update_words p ws ≡ of_name (get_or ws 0 []) us → name ≡ get_or ws 0 [] → vs ≡ us
    → EndsDone (on_variable d p name vs) f r g → EndsDone (update_page d p ws) f r g
by_words d p ws vs us name f g r e en ev h =
    subst (λ (x : Asks). EndsDone x f r g) (sym (page_is d p ws vs name (e ∙ sym (ap (λ (n : Text). of_name n vs) en ∙ ap (λ (v : List Text). of_name (get_or ws 0 []) v) ev)))) h

pub ends_with_one : (d : Dialect) (p : UpdatePage) (ws vs : List Text) (name : Text) (f g : Standing) (r : Result Completion Stop) → AddsOne p (length ws) → name ≡ get_or ws 0 [] → vs ≡ drop 1 ws ++ literal "1" ∷ []
    → EndsDone (on_variable d p name vs) f r g → EndsDone (update_page d p ws) f r g
ends_with_one d p ws vs name f g r k en ev h = by_words d p ws vs (drop 1 ws ++ literal "1" ∷ []) name f g r (words_with_one p ws k) en ev h

pub ends_behind : (d : Dialect) (p : UpdatePage) (ws vs : List Text) (name : Text) (f g : Standing) (r : Result Completion Stop) → Fits p (length ws) → (AddsOne p (length ws) → ⊥) → name ≡ get_or ws 0 [] → vs ≡ drop 1 ws
    → EndsDone (on_variable d p name vs) f r g → EndsDone (update_page d p ws) f r g
ends_behind d p ws vs name f g r t k en ev h = by_words d p ws vs (drop 1 ws) name f g r (words_taken p ws t k) en ev h
