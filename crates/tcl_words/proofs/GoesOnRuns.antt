-- Moves in the brackets that stand round a place, and a text that waits for more.
use Rattle.std.proofs.Common.{◌≡◌, ℕ, ◌-◌, Bool, true, false, not, ◌&&◌, ◌==◌, List, [], ◌∷◌, ◌++◌, length, Result, Ok, Err, refl, sym, ap, subst, ◌∙◌, arith, inl, inr, append_assoc}
use Rattle.std.proofs.lemmas.Bool.{cases_Bool, eqb-true}
use Rattle.std.proofs.lemmas.List.{append-nil}
use Rattle.std.specs.Str.{chars}
use Rattle.std.specs.String.{string_bytes}
use Rattle.tcl_chars.specs.Place.{bytes}
use Rattle.tcl_chars.specs.Reading.{◌>>=◌}
use Rattle.tcl_words.specs.declared.fault.Syntax.{Syntax}
use Rattle.tcl_words.specs.declared.fault.Syntax.TheVariants.{MissingBracket}
use Rattle.tcl_words.specs.declared.moves.At.{At}
use Rattle.tcl_words.specs.declared.moves.At.TheVariants as place
use Rattle.tcl_words.specs.declared.moves.Verdict.{Verdict}
use Rattle.tcl_words.specs.declared.moves.Verdict.TheVariants as verdict
use Rattle.tcl_words.specs.declared.waiting.Waiting.{Waiting}
use Rattle.tcl_words.specs.Complete.{ends_hidden, ends_open, after_all, is_complete}
use Rattle.tcl_words.specs.First.{most_levels}
use Rattle.tcl_words.specs.Waiting.{Script, at_then, in_bracket, script_in, whole, in_then, Judges, end_verdict, Alike, hiding, Awaits, IsBehind}
use Rattle.tcl_words.specs.Words.{after_commands, inner_at}

-- ---- the script in these brackets

levels_of : (size : ℕ) (s : Script) (qs : List Bool) → (script_in size s qs).levels ≡ s.levels - length qs
unfolding script_in
levels_of size s [] = omega arith
levels_of size s (q ∷ qs) = let h = levels_of size (in_bracket size q s) qs in omega arith

nested_in : (size : ℕ) (s : Script) (qs : List Bool) → s.nested ≡ true → (script_in size s qs).nested ≡ true
unfolding script_in
nested_in size s [] n = n
nested_in size s (q ∷ qs) n = nested_in size (in_bracket size q s) qs refl

length_some : {A : Type 0} (x : A) (xs : List A) → (length (x ∷ xs) == 0) ≡ false
length_some x xs = elim (cases_Bool (length (x ∷ xs) == 0)) [
  | inl here ↦ absurd (let e = eqb-true (length (x ∷ xs)) 0 here in omega arith)
  | inr other ↦ other
]

nested_of : (size : ℕ) (qs : List Bool) → (script_in size (whole size) qs).nested ≡ not (length qs == 0)
unfolding script_in
nested_of size [] = refl
nested_of size (q ∷ qs) = nested_in size (in_bracket size q (whole size)) qs refl ∙ sym (ap not (length_some q qs))

script_push : (size : ℕ) (s : Script) (qs : List Bool) (q : Bool) → script_in size s (qs ++ q ∷ []) ≡ in_bracket size q (script_in size s qs)
unfolding script_in
script_push size s [] q = refl
script_push size s (p ∷ qs) q = script_push size (in_bracket size p s) qs q

next_in : (size : ℕ) (s : Script) (qs : List Bool) → s.next [] ≡ Err MissingBracket → (script_in size s qs).next [] ≡ Err MissingBracket
unfolding script_in
next_in size s [] h = h
next_in size s (q ∷ qs) h = next_in size (in_bracket size q s) qs refl

-- ---- moves there

pub goes_there : (items : List Bool) (levels : ℕ) (nested : Bool) (at then_ : At) (cs rest : List ℕ) → nested ≡ not (length items == 0) → levels ≡ 200 - length items
    → ((size : ℕ) (s : Script) (y : List ℕ) → s.levels ≡ levels → s.nested ≡ nested → at_then size at s (cs ++ y) ≡ at_then size then_ s (rest ++ y)) → Alike items at cs items then_ rest
goes_there items levels nested at then_ cs rest n l h = λ size y. h size (script_in size (whole size) items) y (levels_of size (whole size) items ∙ sym l) (nested_of size items ∙ sym n)

pub opens_there : (items pushed : List Bool) (levels : ℕ) (nested quoted : Bool) (at : At) (cs rest : List ℕ) → nested ≡ not (length items == 0) → levels ≡ 200 - length items → pushed ≡ items ++ quoted ∷ []
    → ((size : ℕ) (s : Script) (y : List ℕ) → s.levels ≡ levels → s.nested ≡ nested → at_then size at s (cs ++ y) ≡ at_then size place.Commands (in_bracket size quoted s) (rest ++ y)) → Alike items at cs pushed place.Commands rest
opens_there items pushed levels nested quoted at cs rest n l p h = λ size y.
    h size (script_in size (whole size) items) y (levels_of size (whole size) items ∙ sym l) (nested_of size items ∙ sym n)
    ∙ ap (λ (s : Script). at_then size place.Commands s (rest ++ y)) (sym (ap (script_in size (whole size)) p ∙ script_push size (whole size) items quoted))

some_pushed : (items front : List Bool) (quoted : Bool) → items ≡ front ++ quoted ∷ [] → (length items == 0) ≡ false
some_pushed items [] quoted e = ap (λ (t : List Bool). length t == 0) e ∙ length_some quoted []
some_pushed items (p ∷ front) quoted e = ap (λ (t : List Bool). length t == 0) e ∙ length_some p (front ++ quoted ∷ [])

pub closes_there : (items front : List Bool) (nested quoted : Bool) (at : At) (cs rest : List ℕ) → nested ≡ not (length items == 0) → items ≡ front ++ quoted ∷ []
    → ((size : ℕ) (s : Script) (q : Bool) (y : List ℕ) → nested ≡ true → at_then size at (in_bracket size q s) (cs ++ y) ≡ at_then size (place.Pieces q) s (rest ++ y)) → Alike items at cs front (place.Pieces quoted) rest
closes_there items front nested quoted at cs rest n p h = λ size y.
    ap (λ (s : Script). at_then size at s (cs ++ y)) (ap (script_in size (whole size)) p ∙ script_push size (whole size) front quoted)
    ∙ h size (script_in size (whole size) front) quoted y (n ∙ ap not (some_pushed items front quoted p))

pub ends_there : (items : List Bool) (nested : Bool) (v : Verdict) (at : At) (cs : List ℕ) → nested ≡ not (length items == 0) → v ≡ end_verdict nested
    → ((size : ℕ) (s : Script) → s.nested ≡ nested → at_then size at s cs ≡ s.next []) → Judges items at cs v
unfolding script_in
ends_there [] nested v at cs n e h =
    let P : Verdict → Type 0 = λ x. Judges [] at cs x in
    subst P (sym (e ∙ ap end_verdict n)) (λ size. ap ends_open (h size (whole size) (sym n)))
ends_there (q ∷ qs) nested v at cs n e h =
    let P : Verdict → Type 0 = λ x. Judges (q ∷ qs) at cs x in
    let inside : nested ≡ true = n ∙ ap not (length_some q qs) in
    subst P (sym (e ∙ ap end_verdict inside))
    (λ size. ap ends_open (h size (script_in size (whole size) (q ∷ qs)) (nested_of size (q ∷ qs) ∙ sym n) ∙ next_in size (in_bracket size q (whole size)) qs refl))

pub open_there : (items : List Bool) (nested : Bool) (at : At) (cs : List ℕ) → nested ≡ not (length items == 0) → ((size : ℕ) (s : Script) → s.nested ≡ nested → ends_open (at_then size at s cs) ≡ true) → Judges items at cs verdict.Open
open_there items nested at cs n h = λ size. h size (script_in size (whole size) items) (nested_of size items ∙ sym n)

-- ---- a text that waits

hiding_ends : (o h : Bool) (t : List ℕ) → ends_hidden o h t ≡ (hiding o h t).1
unfolding ends_hidden
hiding_ends o h [] = refl
hiding_ends o h (c ∷ t) = hiding_ends (c == 92 && not o) (o && c == 10) t

hiding_more : (o h : Bool) (a z : List ℕ) → ends_hidden o h (a ++ z) ≡ ends_hidden (hiding o h a).0 (hiding o h a).1 z
unfolding ends_hidden
hiding_more o h [] z = refl
hiding_more o h (c ∷ a) z = hiding_more (c == 92 && not o) (o && c == 10) a z

pub first_reads : (size : ℕ) (z : List ℕ) → after_commands size (inner_at size most_levels) false z ≡ in_then size [] place.Commands z
unfolding at_then script_in
first_reads size z = whole_then (after_commands size (inner_at size most_levels) false z)
  where
    whole_then : (r : Result (List ℕ) Syntax) → r ≡ (r >>= λ rest. Ok rest)
    whole_then (Ok x) = refl
    whole_then (Err m) = refl

module _ (items items' : List Bool) (at at' : At) (left left' : List ℕ) (front line text : List ℕ) (odd hidden odd' hidden' : Bool) (joined : text ≡ front ++ line)
    (alike : Alike items at (left ++ line) items' at' left') (reads : (size : ℕ) (z : List ℕ) → after_commands size (inner_at size most_levels) false (front ++ z) ≡ in_then size items at (left ++ z))
    (hides : (z : List ℕ) → ends_hidden false false (front ++ z) ≡ ends_hidden odd hidden z) (flags : (odd', hidden') ≡ hiding odd hidden line) where
  pub reads_on : (size : ℕ) (z : List ℕ) → after_commands size (inner_at size most_levels) false (text ++ z) ≡ in_then size items' at' (left' ++ z)
  reads_on size z =
      let apart : text ++ z ≡ front ++ (line ++ z) = ap (λ (t : List ℕ). t ++ z) joined ∙ append_assoc front line z in
      ap (after_commands size (inner_at size most_levels) false) apart ∙ reads size (line ++ z) ∙ ap (in_then size items at) (sym (append_assoc left line z)) ∙ alike size z

  pub hides_on : (z : List ℕ) → ends_hidden false false (text ++ z) ≡ ends_hidden odd' hidden' z
  hides_on z =
      let apart : text ++ z ≡ front ++ (line ++ z) = ap (λ (t : List ℕ). t ++ z) joined ∙ append_assoc front line z in
      ap (ends_hidden false false) apart ∙ hides (line ++ z) ∙ hiding_more odd hidden line z ∙ ap (λ (p : Bool × Bool). ends_hidden p.0 p.1 z) (sym flags)

  is_hidden : ends_hidden false false text ≡ hidden'
  is_hidden = ap (ends_hidden false false) joined ∙ hides line ∙ hiding_ends odd hidden line ∙ ap (λ (p : Bool × Bool). p.1) (sym flags)

  pub complete_hidden : hidden' ≡ true → false ≡ is_complete text
  complete_hidden h = sym (ap (λ x. not x && not (ends_open (after_all text))) (is_hidden ∙ h))

  pub complete_by : (b : Bool) → hidden' ≡ false → ((size : ℕ) → ends_open (in_then size items' at' left') ≡ b) → not b ≡ is_complete text
  complete_by b h judged =
      let n = bytes text in
      let P : List ℕ → List ℕ → Type 0 = λ t l. after_commands n (inner_at n most_levels) false t ≡ in_then n items' at' l in
      let same : P text left' = subst (λ (t : List ℕ). P t left') (append-nil text) (subst (P (text ++ [])) (append-nil left') (reads_on n [])) in
      sym (ap (λ x. not x && not (ends_open (after_all text))) (is_hidden ∙ h) ∙ ap (λ (r : Result (List ℕ) Syntax). not (ends_open r)) same ∙ ap not (judged n))

module _ (w w' : Waiting) (line text : List ℕ) (b : IsBehind w line text) (alike : Alike w.outer.items w.at (chars (string_bytes w.left) ++ line) w'.outer.items w'.at (chars (string_bytes w'.left)))
    (flags : (w'.odd, w'.hidden) ≡ hiding w.odd w.hidden line) where
  pub waits_on : Awaits w' text
  waits_on = record {
    reads = reads_on w.outer.items w'.outer.items w.at w'.at (chars (string_bytes w.left)) (chars (string_bytes w'.left)) b.front line text w.odd w.hidden w'.odd w'.hidden b.joined alike b.awaits.reads b.awaits.hides flags;
    hides = hides_on w.outer.items w'.outer.items w.at w'.at (chars (string_bytes w.left)) (chars (string_bytes w'.left)) b.front line text w.odd w.hidden w'.odd w'.hidden b.joined alike b.awaits.reads b.awaits.hides flags;
  }

  pub hidden_on : w'.hidden ≡ true → false ≡ is_complete text
  hidden_on = complete_hidden w.outer.items w'.outer.items w.at w'.at (chars (string_bytes w.left)) (chars (string_bytes w'.left)) b.front line text w.odd w.hidden w'.odd w'.hidden b.joined alike b.awaits.reads b.awaits.hides flags

  pub judged_on : (o : Bool) → w'.hidden ≡ false → ((size : ℕ) → ends_open (in_then size w'.outer.items w'.at (chars (string_bytes w'.left))) ≡ o) → not o ≡ is_complete text
  judged_on = complete_by w.outer.items w'.outer.items w.at w'.at (chars (string_bytes w.left)) (chars (string_bytes w'.left)) b.front line text w.odd w.hidden w'.odd w'.hidden b.joined alike b.awaits.reads b.awaits.hides flags
