-- What is left of lists behind a turn.
use Rattle.std.proofs.Common.{◌≡◌, ℕ, zero, suc, ◌+◌, ◌<◌, ◌≤◌, List, [], ◌∷◌, length, drop, get_or, set, refl, sym, ap, ◌∙◌, arith}
use Rattle.std.proofs.lemmas.List.{drop_all, drop-drop}
use Rattle.tcl_meaning.specs.Control.{behind_turns}
use Rattle.tcl_meaning.specs.Tasks as tasks
use Rattle.tcl_pages.specs.Texts.{Text}
use Rattle.tcl_steps.specs.Views.{loop_list_of, loop_lists_of}
use Rattle.tcl_steps.specs.declared.step.LoopList.{LoopList}

pub none_behind : (es : List Text) (count gone n : ℕ) → count ≡ length es → count ≤ gone + n → drop count es ≡ drop n (drop gone es)
none_behind es count gone n e h = drop_all count es (omega arith) ∙ sym (drop-drop n gone es ∙ drop_all (gone + n) es (omega arith))

pub more_gone : (es : List Text) (gone n : ℕ) → drop (gone + n) es ≡ drop n (drop gone es)
more_gone es gone n = sym (drop-drop n gone es)

-- the first lists have been moved
abbrev pub moved : ℕ → List LoopList → List tasks.LoopList
moved zero ls = behind_turns (loop_lists_of ls)
moved (suc i) [] = []
moved (suc i) (l ∷ ls) = loop_list_of l ∷ moved i ls

-- the lists, where of the one at place i the first `gone` elements have gone
abbrev with_gone : List LoopList → ℕ → LoopList → ℕ → List LoopList
with_gone ls i l gone = set ls i (record (get_or ls i l) { gone = gone })

moved_on : (ls : List LoopList) (i gone : ℕ) (l : LoopList) → i < length ls
    → drop gone (get_or ls i l).elements ≡ drop (length (get_or ls i l).names.items) (drop (get_or ls i l).gone (get_or ls i l).elements)
    → moved (suc i) (with_gone ls i l gone) ≡ moved i ls
moved_on [] i gone l h e = absurd (omega arith)
moved_on (x ∷ ls) zero gone l h e = ap (λ (es : List Text). record { names = x.names.items; elements = es } ∷ behind_turns (loop_lists_of ls)) e
moved_on (x ∷ ls) (suc i) gone l h e = ap (λ (z : List tasks.LoopList). loop_list_of x ∷ z) (moved_on ls i gone l (omega arith) e)

pub one_moved : (ls : List LoopList) (i gone : ℕ) (l : LoopList) → i < length ls
    → drop gone (get_or ls i l).elements ≡ drop (length (get_or ls i l).names.items) (drop (get_or ls i l).gone (get_or ls i l).elements)
    → moved (i + 1) (with_gone ls i l gone) ≡ moved i ls
one_moved ls i gone l h e =
    let one : i + 1 ≡ suc i = omega arith in
    ap (λ (k : ℕ). moved k (with_gone ls i l gone)) one ∙ moved_on ls i gone l h e

pub all_moved : (ls : List LoopList) (i : ℕ) → length ls ≤ i → moved i ls ≡ loop_lists_of ls
all_moved [] zero h = refl
all_moved [] (suc i) h = refl
all_moved (x ∷ ls) zero h = absurd (omega arith)
all_moved (x ∷ ls) (suc i) h = ap (λ (z : List tasks.LoopList). loop_list_of x ∷ z) (all_moved ls i (omega arith))
