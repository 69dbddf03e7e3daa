-- The reading function is the relation of what is spelled, so a text has one reading at most.
use Rattle.std.proofs.Common.{◌≡◌, ℕ, suc, ◌+◌, ◌≤◌, Bool, true, false, List, [], ◌∷◌, ◌++◌, Option, Some, None, Result, Ok, Err, refl, sym, ap, subst, ◌∙◌, arith, inl, inr, ◌⊎◌}
use Rattle.std.specs.Prelude.{IfErr}
use Rattle.std.proofs.lemmas.Bool.{true≢false}
use Rattle.tcl_chars.specs.Characters.{open_bracket, close_bracket}
use Rattle.tcl_chars.specs.Place.{bytes}
use Rattle.tcl_words.specs.declared.fault.Syntax.{Syntax}
use Rattle.tcl_words.specs.Faults.{BadCommand}
use Rattle.tcl_words.specs.First.{First, first, first_of, none, malformed, command}
use Rattle.tcl_words.specs.Laws.{CommandIsSpelled, NoneIsSpelled, OneCommand, CommandOrNone, FaultIsSpelled, ReadingOrFault, BracketAlone}
use Rattle.tcl_words.specs.Parts.{Stretch, Part, text, escape, var, elem_, bracket, Shape}
use Rattle.tcl_words.specs.Spelling.{Piece, Commands, IsWellFormed}
use Rattle.tcl_words.specs.Words.{first_at, commands_at, inner_at}
use Rattle.tcl_words.proofs.Alone.{script_alone}
use Rattle.tcl_chars.proofs.Ends.{if_ok}
use Rattle.tcl_words.proofs.FaultIsFound.{command_found, faults_found}
use Rattle.tcl_words.proofs.FoundIsFault.{first_bad, nest_found}
use Rattle.tcl_words.proofs.Fronts.{is_well, was_malformed}
use Rattle.tcl_words.proofs.ReadIsSpelled.{FirstSpelled, first_spelled, commands_spelled, nest_spelled}
use Rattle.tcl_words.proofs.SpelledIsRead.{command_read, none_read, commands_read, nest_read}

was_command : (r : Result (Option (List Shape) × List ℕ) Syntax) (ws : List Shape) (rest : List ℕ) → first_of r ≡ command ws rest → r ≡ Ok (Some ws, rest)
was_command (Err m) ws rest e = absurd cc
was_command (Ok (None, after)) ws rest e = absurd cc
was_command (Ok (Some words, after)) ws rest e = cc

was_none : (r : Result (Option (List Shape) × List ℕ) Syntax) (rest : List ℕ) → first_of r ≡ none rest → r ≡ Ok (None, rest)
was_none (Err m) rest e = absurd cc
was_none (Ok (None, after)) rest e = cc
was_none (Ok (Some words, after)) rest e = absurd cc

pub if_err : {A : Type 0} (P : Syntax → Type 0) (r : Result A Syntax) (m : Syntax) → IfErr r P → r ≡ Err m → P m
if_err {A = A} P r m h e = let Q : Result A Syntax → Type 0 = λ s. IfErr s P in subst Q e h

read_first : (size levels : ℕ) (nested : Bool) (cs : List ℕ) (x : Option (List Shape)) (rest : List ℕ) → first_at size (inner_at size levels) nested cs ≡ Ok (x, rest) → FirstSpelled size levels nested cs x rest
read_first size levels nested cs x rest e =
    if_ok (λ t. FirstSpelled size levels nested cs t.0 t.1) (first_at size (inner_at size levels) nested cs) (x, rest) (first_spelled size levels (nest_spelled size levels) nested cs) e

pub command_is_spelled : CommandIsSpelled
unfolding first
command_is_spelled size levels nested cs ws rest =
    (λ e. read_first size levels nested cs (Some ws) rest (was_command (first_at size (inner_at size levels) nested cs) ws rest e), λ h. ap first_of (command_read size levels nested cs ws rest h (nest_read size levels)))

pub none_is_spelled : NoneIsSpelled
unfolding first
none_is_spelled size levels nested cs rest =
    (λ e. read_first size levels nested cs None rest (was_none (first_at size (inner_at size levels) nested cs) rest e), λ h. ap first_of (none_read size (inner_at size levels) nested cs rest h))

same_command : (f : First) (ws vs : List Shape) (rest other : List ℕ) → f ≡ command ws rest → f ≡ command vs other → (ws ≡ vs) × (rest ≡ other)
same_command f ws vs rest other e g = (ap words_of (sym e ∙ g), ap rest_of (sym e ∙ g))
  where
    words_of : First → List Shape
    words_of (none rest) = []
    words_of (malformed m) = []
    words_of (command ws rest) = ws

    rest_of : First → List ℕ
    rest_of (none rest) = rest
    rest_of (malformed m) = []
    rest_of (command ws rest) = rest

pub one_command : OneCommand
one_command size levels nested cs ws vs rest other h k =
    same_command (first size levels nested cs) ws vs rest other ((command_is_spelled size levels nested cs ws rest).1 h) ((command_is_spelled size levels nested cs vs other).1 k)

never_both : (f : First) (ws : List Shape) (rest other : List ℕ) → f ≡ command ws rest → f ≡ none other → ⊥
never_both f ws rest other e g = let w : command ws rest ≡ none other = sym e ∙ g in cc

pub command_or_none : CommandOrNone
command_or_none size levels nested cs ws rest other h k =
    never_both (first size levels nested cs) ws rest other ((command_is_spelled size levels nested cs ws rest).1 h) ((none_is_spelled size levels nested cs other).1 k)

pub fault_is_spelled : FaultIsSpelled
unfolding first
fault_is_spelled size levels nested cs m = (
  λ e. if_err (BadCommand size levels nested cs) (first_at size (inner_at size levels) nested cs) m (first_bad size levels (nest_found size levels) nested cs) (was_malformed (first_at size (inner_at size levels) nested cs) m e),
  λ b. ap first_of (command_found size levels nested cs m b (faults_found size levels)),
)

well_or_fault : (size levels : ℕ) (nested : Bool) (cs : List ℕ) (f : First) → first size levels nested cs ≡ f → IsWellFormed size levels nested cs ⊎ ((m : Syntax) × BadCommand size levels nested cs m)
well_or_fault size levels nested cs (none rest) e = inl (inr (rest, (none_is_spelled size levels nested cs rest).0 e))
well_or_fault size levels nested cs (malformed m) e = inr (m, (fault_is_spelled size levels nested cs m).0 e)
well_or_fault size levels nested cs (command ws rest) e = inl (inl (ws, rest, (command_is_spelled size levels nested cs ws rest).0 e))

-- what is well formed is so read
pub well_read : (size levels : ℕ) (nested : Bool) (cs : List ℕ) → IsWellFormed size levels nested cs → is_well (first size levels nested cs) ≡ true
well_read size levels nested cs (inl (ws, rest, h)) = ap is_well ((command_is_spelled size levels nested cs ws rest).1 h)
well_read size levels nested cs (inr (rest, h)) = ap is_well ((none_is_spelled size levels nested cs rest).1 h)

well_not_fault : (size levels : ℕ) (nested : Bool) (cs : List ℕ) (m : Syntax) → IsWellFormed size levels nested cs → BadCommand size levels nested cs m → ⊥
well_not_fault size levels nested cs m h b = true≢false (sym (well_read size levels nested cs h) ∙ ap is_well ((fault_is_spelled size levels nested cs m).1 b))

same_fault : (f : First) (m k : Syntax) → f ≡ malformed m → f ≡ malformed k → m ≡ k
same_fault f m k e g = let w : malformed m ≡ malformed k = sym e ∙ g in cc

pub reading_or_fault : ReadingOrFault
reading_or_fault size levels nested cs = (
  well_or_fault size levels nested cs (first size levels nested cs) refl,
  well_not_fault size levels nested cs,
  λ m k b d. same_fault (first size levels nested cs) m k ((fault_is_spelled size levels nested cs m).1 b) ((fault_is_spelled size levels nested cs k).1 d),
)

-- ---- brackets

abbrev script_of : Part → Stretch
script_of (text s) = s
script_of (escape s c) = s
script_of (var s name) = s
script_of (elem_ s name index) = s
script_of (bracket s script) = script

alone : (size levels more : ℕ) (ends : List ℕ → Bool) (cs : List ℕ) (p : Part) (s script : Stretch) (rest : List ℕ) (whole : ℕ) → Piece whole levels ends cs p rest → p ≡ bracket s script → levels ≤ suc more → whole ≡ size + bytes (close_bracket ∷ rest)
    → (below : ℕ) × (commands : List (List Shape)) × (levels ≡ suc below) × (cs ≡ open_bracket ∷ (script.text ++ close_bracket ∷ rest)) × Commands whole below true (script.text ++ close_bracket ∷ rest) commands (close_bracket ∷ rest)
    × Commands size more false script.text commands []
unfolding commands_at
alone size _ more _ _ _ s script _ whole (Piece.plain levels ends cs t rest r w) e le big = absurd cc
alone size _ more _ _ _ s script _ whole (Piece.escaped levels ends cs t rest r w) e le big = absurd cc
alone size _ more _ _ _ s script _ whole (Piece.variable levels ends cs t name rest b l p n w) e le big = absurd cc
alone size _ more _ _ _ s script _ whole (Piece.braced_variable levels ends cs t name rest l n w) e le big = absurd cc
alone size _ more _ _ _ s script _ whole (Piece.element levels k ends cs t name index ps rest v l n i w) e le big = absurd cc
alone size _ more _ _ _ s script _ whole (Piece.script levels k ends cs t inside commands rest v n c w) e le big =
    let same : inside ≡ script = ap script_of e in
    let joined : cs ≡ script.text ++ close_bracket ∷ rest = n.joined ∙ ap (λ (x : Stretch). x.text ++ close_bracket ∷ rest) same in
    let at : Commands whole k true (script.text ++ close_bracket ∷ rest) commands (close_bracket ∷ rest) = subst (λ t. Commands whole k true t commands (close_bracket ∷ rest)) joined c in
    let read = commands_read whole k true (script.text ++ close_bracket ∷ rest) commands (close_bracket ∷ rest) at (nest_read whole k) in
    let P : ℕ → Type 0 = λ x. commands_at x (inner_at x k) true (script.text ++ close_bracket ∷ rest) ≡ Ok (commands, close_bracket ∷ rest) in
    let apart = script_alone size k more script.text rest commands (omega (arith, v, le)) (subst P big read) in
    (k, commands, v, ap (λ t. open_bracket ∷ t) joined, at, if_ok (λ x. Commands size more false script.text x.0 x.1) (commands_at size (inner_at size more) false script.text) (commands, []) (commands_spelled size more (nest_spelled size more) false script.text) apart)

pub bracket_alone : BracketAlone
bracket_alone size levels more ends cs s script rest le p = alone size levels more ends cs (bracket s script) s script rest (size + bytes (close_bracket ∷ rest)) p refl le refl
