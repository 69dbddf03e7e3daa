-- What stood under the names of an array, noted and put back.
use Rattle.std.proofs.Common.{◌≡◌, List, [], ◌∷◌, ◌++◌, true, false, cond, is_some, Option, None, Some, Result, Ok, Err, OnOk, OnErr, refl, sym, ap, ◌∙◌}
use Rattle.std.specs.Cmp.Lexicographic.{nat_list_cmp_total}
use Rattle.std.specs.FinMap as map
use Rattle.std.specs.FinMap.{same_map, get-insert, get-remove}
use Rattle.tcl_chars.specs.Texts.{text_of}
use Rattle.tcl_names.proofs.Entries.{exact, same, same_text, insert_same}
use Rattle.tcl_pages.specs.Texts.{Text}
use Rattle.tcl_meaning.specs.Arrays.{Elements}
use Rattle.tcl_frames.specs.Undone.{with_earlier, restored, undone}
use Rattle.tcl_frames.specs.declared.earlier.Earlier.{Earlier}

-- a look-up, once x was put under a name and then again what it had
there : (m : Elements) (i : Text) (o x : Option Text) → map.get m i ≡ o → (q : Text) → cond (same q i) o (cond (same q i) x (map.get m q)) ≡ map.get m q
there m i o x at q = elim (same q i) as (λ b. same q i ≡ b → cond b o (cond b x (map.get m q)) ≡ map.get m q) [
  | true ↦ λ e. sym at ∙ ap (map.get m) (sym (same_text q i e))
  | false ↦ λ e. refl
] refl

-- what was put under a new name is taken out
taken_out : (m : Elements) (i t : Text) → map.get m i ≡ None → map.remove (map.insert m i t) i ≡ m
taken_out m i t at = same_map nat_list_cmp_total exact _ _ (λ q.
    get-remove nat_list_cmp_total (map.insert m i t) i q ∙ ap (cond (same q i) None) (get-insert nat_list_cmp_total m i t q) ∙ there m i None (Some t) at q)

-- what was put under a name that had a text gives way to that text
put_again : (m : Elements) (i t u : Text) → map.get m i ≡ Some u → map.insert (map.insert m i t) i u ≡ m
put_again m i t u at = same_map nat_list_cmp_total exact _ _ (λ q.
    get-insert nat_list_cmp_total (map.insert m i t) i u q ∙ ap (cond (same q i) (Some u)) (get-insert nat_list_cmp_total m i t q) ∙ there m i (Some u) (Some t) at q)

-- where a name has nothing, nothing is taken out
nothing_out : (m : Elements) (i : Text) → map.get m i ≡ None → map.remove m i ≡ m
nothing_out m i at = same_map nat_list_cmp_total exact _ _ (λ q.
    get-remove nat_list_cmp_total m i q ∙ elim (same q i) as (λ b. same q i ≡ b → cond b None (map.get m q) ≡ map.get m q) [
      | true ↦ λ e. sym at ∙ ap (map.get m) (sym (same_text q i e))
      | false ↦ λ e. refl
    ] refl)

-- a name that has a text has one after a text is put there
still_there : (m : Elements) (i t u : Text) → map.get m i ≡ Some u → is_some (map.get (map.insert m i t) i) ≡ true
still_there m i t u at = ap is_some (get-insert nat_list_cmp_total m i t i) ∙ elim (same i i) as (λ b. is_some (cond b (Some t) (map.get m i)) ≡ true) [
  | true ↦ refl
  | false ↦ ap is_some at
]

-- to put back what is there changes nothing
as_it_was : (m : Elements) (i : Text) (o : Option Text) → map.get m i ≡ o → with_earlier i o m ≡ m
as_it_was m i None at = nothing_out m i at
as_it_was m i (Some u) at = ap (λ b. cond b (map.insert m i u) m) (ap is_some at) ∙ insert_same m i u at

-- to put back what a name had before a text was put there undoes that
undone_put : (m : Elements) (i t : Text) (o : Option Text) → map.get m i ≡ o → with_earlier i o (map.insert m i t) ≡ m
undone_put m i t None at = taken_out m i t at
undone_put m i t (Some u) at = ap (λ b. cond b (map.insert (map.insert m i t) i u) (map.insert m i t)) (still_there m i t u at) ∙ put_again m i t u at

-- the note behind the others is put back first
pub last_first : (es : List Earlier) (e : Earlier) (m : Elements) → undone (es ++ e ∷ []) m ≡ undone es (restored e m)
last_first [] e m = refl
last_first (x ∷ es) e m = ap (restored x) (last_first es e m)

by_answer : {A E : Type 0} (r : Result A E) (m n : Elements) (i t : Text) (o : Option Text) → map.get m i ≡ o → OnOk r (n ≡ map.insert m i t) → OnErr r (n ≡ m) → with_earlier i o n ≡ m
by_answer (Ok x) m n i t o at put stays = ap (with_earlier i o) put ∙ undone_put m i t o at
by_answer (Err x) m n i t o at put stays = ap (with_earlier i o) stays ∙ as_it_was m i o at

-- a text that is put under a name, or is refused, once what stood there is noted
pub noted : {A E : Type 0} (r : Result A E) (es : List Earlier) (e : Earlier) (m n : Elements) (i t : Text) → text_of e.name ≡ i → map.get m i ≡ e.value
    → OnOk r (n ≡ map.insert m i t) → OnErr r (n ≡ m) → undone (es ++ e ∷ []) n ≡ undone es m
noted r es e m n i t named at put stays = last_first es e n ∙ ap (undone es) (ap (λ q. with_earlier q e.value n) named ∙ by_answer r m n i t e.value at put stays)
