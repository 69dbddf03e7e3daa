-- Pages that only look at what scripts keep, and change it: they are over at once, and put nothing out.
use Rattle.std.proofs.Common.{◌≡◌, List, [], ◌∷◌, Result, Ok, Err, refl}
use Rattle.tcl_chars.specs.declared.numbers.Dialect.{Dialect}
use Rattle.tcl_pages.specs.Texts.{Text}
use Rattle.tcl_pages.specs.Answers.{Answer}
use Rattle.tcl_pages.specs.Updates.{Old, begins, is_read, must_be_there, Update, update_words, old_of, updated}
use Rattle.tcl_pages.specs.declared.pages.UpdatePage.TheVariants as page
use Rattle.tcl_meaning.specs.declared.refusal.Refusal.{Refusal}
use Rattle.tcl_meaning.specs.declared.refusal.Refusal.TheVariants.{NoSuch, IsArray, IsntArray, NoElement}
use Rattle.tcl_meaning.specs.Asking.{Asks, value_step, done}
use Rattle.tcl_meaning.specs.Completions.{normal}
use Rattle.tcl_meaning.specs.Effects.{Plain, Give, Look, Make, Link, Write, Take, HasEnded, Exit, Call, ◌>>=◌ as andthen, Got, Gives, Broke, Exits, Untold, made, does}
use Rattle.tcl_meaning.specs.State.{State, Store, Change}
use Rattle.tcl_meaning.specs.Tasks.{Step, Done, Run, Evaluate, Pay}
use Rattle.tcl_meaning.specs.Value.{Value, Has, Fails, ◌>>=◌, on_value, judged, look}
use Rattle.tcl_meaning.specs.VariablePages.{set_page, update_page, old_text}
use Rattle.tcl_meaning.specs.Variables.{get, put_change, set, set_result}

-- a program that does no more, and gives a value of these
abbrev pub Quietly : {A : Type 0} → (A → Type 0) → Plain A → Type 0
Quietly P (Give a) = P a
Quietly P (Look f) = (s : Store) → Quietly P (f s)
Quietly P (Make ch p) = Quietly P p
Quietly P (Link level other local f) = ⊥
Quietly P (Write o t p) = ⊥
Quietly P (Take want f) = ⊥
Quietly P (HasEnded f) = ⊥
Quietly P (Exit n) = ⊥
Quietly P (Call scope task f) = ⊥

-- it gives one of these values, and the channels are the same
abbrev pub GivesQuietly : {A : Type 0} → (A → Type 0) → State → Got A → Type 0
GivesQuietly P s (Gives a t) = P a × (t.channels ≡ s.channels)
GivesQuietly P s (Broke r) = ⊥
GivesQuietly P s (Exits n r) = ⊥
GivesQuietly P s (Untold c) = ⊥

pub quiet_does : {A : Type 0} (P : A → Type 0) (p : Plain A) (s : State) → Quietly P p → GivesQuietly P s (does p s)
quiet_does P (Give a) s h = (h, refl)
quiet_does P (Look f) s h = quiet_does P (f s.store) s (h s.store)
quiet_does P (Make ch p) s h = quiet_does P p (made ch s) h
quiet_does P (Link level other local f) s h = absurd h
quiet_does P (Write o t p) s h = absurd h
quiet_does P (Take want f) s h = absurd h
quiet_does P (HasEnded f) s h = absurd h
quiet_does P (Exit n) s h = absurd h
quiet_does P (Call scope task f) s h = absurd h

quiet_bind : {A B : Type 0} (P : A → Type 0) (Q : B → Type 0) (p : Plain A) (f : A → Plain B) → Quietly P p → ((a : A) → P a → Quietly Q (f a)) → Quietly Q (andthen p f)
quiet_bind P Q (Give a) f h k = k a h
quiet_bind P Q (Look g) f h k = λ s. quiet_bind P Q (g s) f (h s) k
quiet_bind P Q (Make ch p) f h k = quiet_bind P Q p f h k
quiet_bind P Q (Link level other local g) f h k = absurd h
quiet_bind P Q (Write o t p) f h k = absurd h
quiet_bind P Q (Take want g) f h k = absurd h
quiet_bind P Q (HasEnded g) f h k = absurd h
quiet_bind P Q (Exit n) f h k = absurd h
quiet_bind P Q (Call scope task g) f h k = absurd h

-- ---- pages

-- it asks for nothing more
abbrev pub IsDone : Step → Type 0
IsDone (Done c) = Unit {0}
IsDone (Run scope t o) = ⊥
IsDone (Evaluate t o) = ⊥
IsDone (Pay turns) = ⊥

-- a page is over
abbrev pub IsOver : Value Step → Type 0
IsOver v = IsDone (value_step v)

abbrev pub IsQuiet : Asks → Type 0
IsQuiet page = Quietly IsOver page

abbrev Any : {A : Type 0} → A → Type 0
Any a = Unit {0}

page_bind : {A : Type 0} (p : Plain (Value A)) (f : A → Asks) → Quietly Any p → ((a : A) → IsQuiet (f a)) → IsQuiet (p >>= f)
page_bind p f h k = quiet_bind Any IsOver p (on_value f) h (λ v x. by_value v)
  where
    by_value : (v : Value _) → IsQuiet (on_value f v)
    by_value (Has a) = k a
    by_value (Fails c) = tt

judged_quiet : {A : Type 0} (a : Answer A) → Quietly {A = Value A} Any (judged a)
judged_quiet (Ok a) = tt
judged_quiet (Err message) = tt

set_quiet : (name t : Text) → Quietly Any (set name t)
set_quiet name t = λ s. by_result (put_change s name t)
  where
    by_result : (r : Result Change Refusal) → Quietly Any (set_result name r)
    by_result (Ok ch) = tt
    by_result (Err refusal) = tt

old_quiet : (old : Old) (name : Text) (r : Result Text Refusal) → Quietly Any (old_text old name r)
old_quiet old name (Ok t) = tt
old_quiet (begins first) name (Err NoSuch) = tt
old_quiet (begins first) name (Err NoElement) = tt
old_quiet (begins first) name (Err IsArray) = tt
old_quiet (begins first) name (Err IsntArray) = tt
old_quiet is_read name (Err refusal) = tt
old_quiet must_be_there name (Err NoSuch) = tt
old_quiet must_be_there name (Err NoElement) = tt
old_quiet must_be_there name (Err IsArray) = tt
old_quiet must_be_there name (Err IsntArray) = tt

pub set_page_quiet : (name t : Text) → IsQuiet (set_page (name ∷ t ∷ []))
unfolding set_page
set_page_quiet name t = page_bind (set name t) (λ z. done (normal t)) (set_quiet name t) (λ z. tt)

module _ (dialect : Dialect) where
  -- what is left of `incr` once its words are known, then what scripts keep, the old text and the new one
  abbrev puts : Text → Text → Asks
  puts name new = set name new >>= λ z. done (normal new)

  abbrev adds : Update → Text → Asks
  adds w old = judged (updated dialect page.Incr old w.words) >>= λ new. puts w.name new

  abbrev reads : Update → Store → Asks
  reads w s = old_text (old_of page.Incr w.words) w.name (get s w.name) >>= λ old. adds w old

  abbrev changes : Update → Asks
  changes w = look >>= λ s. reads w s

  pub incr_page_quiet : (ws : List Text) → IsQuiet (update_page dialect page.Incr ws)
  unfolding update_page
  incr_page_quiet ws = page_bind (judged (update_words page.Incr ws)) changes (judged_quiet (update_words page.Incr ws))
      (λ w. page_bind look (reads w) (λ s. tt {0})
      (λ s. page_bind (old_text (old_of page.Incr w.words) w.name (get s w.name)) (adds w) (old_quiet (old_of page.Incr w.words) w.name (get s w.name))
      (λ old. page_bind (judged (updated dialect page.Incr old w.words)) (puts w.name) (judged_quiet (updated dialect page.Incr old w.words))
      (λ new. page_bind (set w.name new) (λ z. done (normal new)) (set_quiet w.name new) (λ z. tt {0})))))
