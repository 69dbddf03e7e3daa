-- Commands that change the command table, over what scripts keep: proc(n), rename(n).
use Rattle.std.proofs.Common.{◌≡◌, ◌≢◌, ℕ, suc, true, false, true≢false, List, [], ◌∷◌, length, map as each, Option, None, Some, Bor, Result, Ok, Err, IfOk, OnOk, Global, refl, sym, ap, subst, ◌∙◌}
use Rattle.std.specs.FinMap as map
use Rattle.std.specs.Prelude.{is_none}
use Rattle.std.specs.declared.rc.RcStr.{RcStr}
use Rattle.tcl_chars.specs.Answers.{Stops}
use Rattle.tcl_chars.specs.declared.fault.Fault.{Fault}
use Rattle.tcl_chars.specs.declared.fault.Fault.TheVariants as stop
use Rattle.std.specs.Option.{option_copied}
use Rattle.tcl_chars.specs.Messages.{about}
use Rattle.tcl_chars.specs.Texts.{literal, text_of}
use Rattle.tcl_pages.specs.Answers.{Answer}
use Rattle.tcl_pages.specs.Texts.{Text}
use Rattle.tcl_frames.specs.Standing.{Standing, store_of}
use Rattle.tcl_meaning.specs.Asking.{Asks, done}
use Rattle.tcl_meaning.specs.Completions.{Completion, failure, nothing, wrong_words}
use Rattle.tcl_meaning.specs.Effects.{Give, Gives, does}
use Rattle.tcl_meaning.specs.Names.{without_colons}
use Rattle.tcl_meaning.specs.ProcedurePages.{proc_page, rename_page, delete_command, rename_command, no_command}
use Rattle.tcl_meaning.specs.Procedures.{procedure_of}
use Rattle.tcl_meaning.specs.State.{Procedure, Command, Commands, Channels, Store, State, procedure, set_command}
use Rattle.tcl_meaning.specs.Tasks.{Done}
use Rattle.tcl_meaning.specs.Value.{◌>>=◌, judged, make}
use Rattle.tcl_procs.specs.Reading.{is_empty}
use Rattle.tcl_procs.specs.Renaming.{delete_page, move_page}
use Rattle.tcl_table.specs.Rename.{renamed, renamed_by, Refuses}
use Rattle.tcl_table.specs.declared.table.TableFault.{TableFault}
use Rattle.tcl_table.specs.declared.table.TableFault.TheVariants as fault
use Rattle.tcl_steps.specs.Comes.{BecomesIn}
use Rattle.tcl_steps.specs.Ends.{first_step, DoesIn}

-- a page is done with a completion, and leaves this
abbrev pub Leaves : Asks → Store → Completion → Store → Type 0
Leaves page before c after = BecomesIn (first_step page) before (Give (Done c)) after

abbrev state_in : Store → Channels → ℕ → State
state_in s channels units = record { store = s; channels = channels; units = units }

-- ---- proc

abbrev proc_by : Text → Answer Procedure → Asks
proc_by name answer = do
  p ← judged answer
  _ ← make (set_command (without_colons name) (procedure p))
  done nothing

pub proc_usage : (ws : List Text) (s : Store) → length ws ≢ 3 → Leaves (proc_page ws) s (wrong_words (literal "proc name args body")) s
unfolding proc_page
proc_usage [] s h = record { same = λ ch n. refl }
proc_usage (a ∷ []) s h = record { same = λ ch n. refl }
proc_usage (a ∷ b ∷ []) s h = record { same = λ ch n. refl }
proc_usage (a ∷ b ∷ c ∷ []) s h = absurd (h refl)
proc_usage (a ∷ b ∷ c ∷ d ∷ ws) s h = record { same = λ ch n. refl }

pub proc_refused : (name formals body m : Text) (s : Store) → procedure_of formals body ≡ Err m → Leaves (proc_page (name ∷ formals ∷ body ∷ [])) s (failure m) s
unfolding proc_page
proc_refused name formals body m s e = record { same = λ ch n. ap (λ r. does (first_step (proc_by name r)) (state_in s ch n)) e }

pub proc_defined : (name formals body : Text) (p : Procedure) (cs after : Commands) (f : Standing) → procedure_of formals body ≡ Ok p → after ≡ map.insert cs (without_colons name) (procedure p)
    → Leaves (proc_page (name ∷ formals ∷ body ∷ [])) (store_of cs f) nothing (store_of after f)
unfolding proc_page
proc_defined name formals body p cs after f e h =
    record { same = λ ch n. ap (λ r. does (first_step (proc_by name r)) (state_in (store_of cs f) ch n)) e ∙ ap (λ t. Gives (Done nothing) (state_in (store_of t f) ch n)) (sym h) }

-- ---- rename

pub rename_usage : (ws : List Text) (s : Store) → length ws ≢ 2 → Leaves (rename_page ws) s (wrong_words (literal "rename oldName newName")) s
unfolding rename_page
rename_usage [] s h = record { same = λ ch n. refl }
rename_usage (a ∷ []) s h = record { same = λ ch n. refl }
rename_usage (a ∷ b ∷ []) s h = absurd (h refl)
rename_usage (a ∷ [] ∷ c ∷ ws) s h = record { same = λ ch n. refl }
rename_usage (a ∷ (b ∷ bs) ∷ c ∷ ws) s h = record { same = λ ch n. refl }

pub rename_deletes : (old new : Text) → is_empty new ≡ true → rename_page (old ∷ new ∷ []) ≡ delete_page old
unfolding rename_page
rename_deletes old [] e = refl
rename_deletes old (c ∷ cs) e = absurd (true≢false (sym e))

pub rename_moves : (old new : Text) → is_empty new ≡ false → rename_page (old ∷ new ∷ []) ≡ move_page old new
unfolding rename_page
rename_moves old [] e = absurd (true≢false e)
rename_moves old (c ∷ cs) e = refl

pub none_deleted : (name : Text) (cs : Commands) (f : Standing) (o : Option (Bor Command)) → option_copied o ≡ map.get cs (without_colons name) → is_none o ≡ true
    → Leaves (delete_page name) (store_of cs f) (failure (no_command (literal "can't delete") name)) (store_of cs f)
none_deleted name cs f None e h = record { same = λ ch n. ap (λ c. does (first_step (delete_command name c)) (state_in (store_of cs f) ch n)) (sym e) }
none_deleted name cs f (Some c) e h = absurd (true≢false (sym h))

pub one_deleted : (name : Text) (cs after : Commands) (f : Standing) (o : Option (Bor Command)) → option_copied o ≡ map.get cs (without_colons name) → is_none o ≡ false
    → after ≡ map.remove cs (without_colons name) → Leaves (delete_page name) (store_of cs f) nothing (store_of after f)
one_deleted name cs after f None e h k = absurd (true≢false h)
one_deleted name cs after f (Some c) e h k =
    record { same = λ ch n. ap (λ c. does (first_step (delete_command name c)) (state_in (store_of cs f) ch n)) (sym e) ∙ ap (λ t. Gives (Done nothing) (state_in (store_of t f) ch n)) (sym k) }

module _ (old new : Text) (cs : Commands) (f : Standing) (ch : Channels) (n : ℕ) where
  move_done : (after : Commands) (a b : Option Command) → renamed_by cs (without_colons old) (without_colons new) a b ≡ Ok after
      → does (first_step (rename_command old new a b)) (state_in (store_of cs f) ch n) ≡ Gives (Done nothing) (state_in (store_of after f) ch n)
  move_done after None b e = cc
  move_done after (Some c) (Some d) e = cc
  move_done after (Some c) None e =
      let same : map.insert (map.remove cs (without_colons old)) (without_colons new) c ≡ after = cc in
      ap (λ t. Gives (Done nothing) (state_in (store_of t f) ch n)) same

  move_unknown : (a b : Option Command) → renamed_by cs (without_colons old) (without_colons new) a b ≡ Err fault.Unknown
      → does (first_step (rename_command old new a b)) (state_in (store_of cs f) ch n) ≡ Gives (Done (failure (no_command (literal "can't rename") old))) (state_in (store_of cs f) ch n)
  move_unknown None b e = refl
  move_unknown (Some c) (Some d) e = cc
  move_unknown (Some c) None e = cc

  move_taken : (a b : Option Command) → renamed_by cs (without_colons old) (without_colons new) a b ≡ Err fault.TargetExists
      → does (first_step (rename_command old new a b)) (state_in (store_of cs f) ch n) ≡ Gives (Done (failure (about (literal "can't rename to") new (literal ": command already exists")))) (state_in (store_of cs f) ch n)
  move_taken None b e = cc
  move_taken (Some c) (Some d) e = refl
  move_taken (Some c) None e = cc

pub moved : (old new : Text) (cs after : Commands) (f : Standing) → renamed cs (without_colons old) (without_colons new) ≡ Ok after → Leaves (move_page old new) (store_of cs f) nothing (store_of after f)
moved old new cs after f e = record { same = λ ch n. move_done old new cs f ch n after (map.get cs (without_colons old)) (map.get cs (without_colons new)) e }

pub unknown_moved : (old new : Text) (cs : Commands) (f : Standing) → renamed cs (without_colons old) (without_colons new) ≡ Err fault.Unknown
    → Leaves (move_page old new) (store_of cs f) (failure (no_command (literal "can't rename") old)) (store_of cs f)
unknown_moved old new cs f e = record { same = λ ch n. move_unknown old new cs f ch n (map.get cs (without_colons old)) (map.get cs (without_colons new)) e }

pub taken_moved : (old new : Text) (cs : Commands) (f : Standing) → renamed cs (without_colons old) (without_colons new) ≡ Err fault.TargetExists
    → Leaves (move_page old new) (store_of cs f) (failure (about (literal "can't rename to") new (literal ": command already exists"))) (store_of cs f)
taken_moved old new cs f e = record { same = λ ch n. move_taken old new cs f ch n (map.get cs (without_colons old)) (map.get cs (without_colons new)) e }

-- ---- as the code has them

pub said_does : {E : Type 0} (page : Asks) (s after : Store) (c : Completion) (r : Result Completion E) → IfOk r (λ d. d ≡ c) → Leaves page s c after → DoesIn page s r after
said_does page s after c (Ok d) e h = subst (λ z. Leaves page s z after) (sym e) h
said_does page s after c (Err refused) e h = tt

each_length : {Z : Type 0} (ts : List (RcStr Z)) → length (each text_of ts) ≡ length ts
each_length [] = refl
each_length (t ∷ ts) = ap suc (each_length ts)

pub proc_usage_does : {E Z : Type 0} (ts : List (RcStr Z)) (s : Store) (r : Result Completion E) → length ts ≢ 3 → IfOk r (λ d. d ≡ wrong_words (literal "proc name args body")) → DoesIn (proc_page (each text_of ts)) s r s
proc_usage_does ts s r h e = said_does (proc_page (each text_of ts)) s s (wrong_words (literal "proc name args body")) r e (proc_usage (each text_of ts) s (λ k. h (sym (each_length ts) ∙ k)))

pub rename_usage_does : {E Z : Type 0} (ts : List (RcStr Z)) (s : Store) (r : Result Completion E) → length ts ≢ 2 → IfOk r (λ d. d ≡ wrong_words (literal "rename oldName newName")) → DoesIn (rename_page (each text_of ts)) s r s
rename_usage_does ts s r h e = said_does (rename_page (each text_of ts)) s s (wrong_words (literal "rename oldName newName")) r e (rename_usage (each text_of ts) s (λ k. h (sym (each_length ts) ∙ k)))

pub defined_does : {E : Type 0} (name formals body : Text) (p : Procedure) (cs after : Commands) (f : Standing) (r : Result Completion E) → procedure_of formals body ≡ Ok p
    → OnOk r (after ≡ map.insert cs (without_colons name) (procedure p)) → IfOk r (λ c. c ≡ nothing) → DoesIn (proc_page (name ∷ formals ∷ body ∷ [])) (store_of cs f) r (store_of after f)
defined_does name formals body p cs after f (Ok c) e d h = subst (λ z. Leaves (proc_page (name ∷ formals ∷ body ∷ [])) (store_of cs f) z (store_of after f)) (sym h) (proc_defined name formals body p cs after f e d)
defined_does name formals body p cs after f (Err refused) e d h = tt

pub stopped_by : {A : Type 0} (meant : Answer A) (fault : Fault) (message : RcStr Global) → fault ≡ stop.Error message → Stops fault meant → meant ≡ Err (text_of message)
stopped_by meant (stop.Error t) message e h = let same : t ≡ message = cc in h ∙ ap (λ z. Err (text_of z)) same
stopped_by meant stop.Memory message e h = cc

unknown_by : (r : Result Commands TableFault) (x : TableFault) → x ≡ fault.Unknown → Refuses r x → r ≡ Err fault.Unknown
unknown_by r fault.Unknown e h = h
unknown_by r fault.TargetExists e h = cc
unknown_by r fault.Memory e h = cc

taken_by : (r : Result Commands TableFault) (x : TableFault) → x ≡ fault.TargetExists → Refuses r x → r ≡ Err fault.TargetExists
taken_by r fault.Unknown e h = cc
taken_by r fault.TargetExists e h = h
taken_by r fault.Memory e h = cc

module _ {E : Type 0} (old new o n : Text) (cs after : Commands) (f : Standing) (x : TableFault) (r : Result Completion E) (is_old : o ≡ without_colons old) (is_new : n ≡ without_colons new)
    (refuses : Refuses (renamed cs o n) x) (same : after ≡ cs) where
  names_are : renamed cs o n ≡ renamed cs (without_colons old) (without_colons new)
  names_are = ap (λ k. renamed cs k n) is_old ∙ ap (renamed cs (without_colons old)) is_new

  pub unknown_does : x ≡ fault.Unknown → IfOk r (λ c. c ≡ failure (no_command (literal "can't rename") old)) → DoesIn (move_page old new) (store_of cs f) r (store_of after f)
  unknown_does e h =
      subst (λ t. DoesIn (move_page old new) (store_of cs f) r (store_of t f)) (sym same)
      (said_does (move_page old new) (store_of cs f) (store_of cs f) _ r h (unknown_moved old new cs f (sym names_are ∙ unknown_by (renamed cs o n) x e refuses)))

  pub taken_does : x ≡ fault.TargetExists → IfOk r (λ c. c ≡ failure (about (literal "can't rename to") new (literal ": command already exists"))) → DoesIn (move_page old new) (store_of cs f) r (store_of after f)
  taken_does e h =
      subst (λ t. DoesIn (move_page old new) (store_of cs f) r (store_of t f)) (sym same)
      (said_does (move_page old new) (store_of cs f) (store_of cs f) _ r h (taken_moved old new cs f (sym names_are ∙ taken_by (renamed cs o n) x e refuses)))
