-- The call of a command whose words are the elements of a list.
use Rattle.std.proofs.Common.{◌≡◌, ◌+◌, List, [], ◌∷◌, ◌++◌, Ok, refl, sym, ap, ◌∙◌, arith}
use Rattle.tcl_chars.specs.declared.numbers.Dialect.{Dialect}
use Rattle.tcl_list.specs.Elements.{elements_of}
use Rattle.tcl_list.specs.Written.{written}
use Rattle.tcl_list.proofs.OneList.{reading_is_spelling}
use Rattle.tcl_list.proofs.Spelled.{written_is_spelled}
use Rattle.tcl_pages.specs.Texts.{Text}
use Rattle.tcl_words.specs.Parts.{Shape}
use Rattle.tcl_meaning.specs.Script.{run_command}
use Rattle.tcl_code.specs.Instructions.{Instruction, Push, Gather, AddAll, CallGathered}
use Rattle.tcl_code.specs.Machine.{with_result, on_answer, spot}
use Rattle.tcl_code.specs.Parts.{Runs}
use Rattle.tcl_code.specs.Valid.{shape}
use Rattle.tcl_code.proofs.Shapes.{fits_one, fits_joined}
use Rattle.tcl_code.proofs.Steps.{one_done, moved_done, same_done}
use Rattle.tcl_compile.specs.Emitted.{CommandCode}
use Rattle.tcl_compile.specs.Fragments.{Grown, call_of_list, gathered}
use Rattle.tcl_compile.specs.Inlining.{AllSay}
use Rattle.tcl_compile.specs.Literals.{AllLiteral}
use Rattle.tcl_compile.proofs.Commands.{gathers_end, taken_word, words_last}
use Rattle.tcl_compile.proofs.Guarded.{command_said}
use Rattle.tcl_compile.proofs.LiteralWords.{all_say}
use Rattle.tcl_compile.proofs.Pieces.{push_does}

reads_back : (ts : List Text) → elements_of (written ts) ≡ Ok ts
reads_back ts = (reading_is_spelling (written ts) ts).1 (written_is_spelled ts)

module _ (dialect : Dialect) where
  list_runs : (ws : List Shape) (ts : List Text) (list : Text) → AllSay ws ts → elements_of list ≡ Ok ts → Runs dialect (call_of_list list) (λ d. run_command dialect d ws)
  list_runs ws ts list say e = record {
    from = λ code at r stack d s has.
        same_done dialect code (words_last dialect d ts s ∙ sym (command_said dialect d ws ts s say))
        (one_done dialect code Gather has.0 refl
        (one_done dialect code (Push list) has.1.0 refl
        (one_done dialect code AddAll has.1.1.0 (ap (λ x. on_answer x (λ vs. spot (at + 1 + 1 + 1) (gathered ([] ++ vs) (with_result r stack)) d) s) e)
        (moved_done dialect code (omega arith) ((gathers_end dialect).from code (at + 1 + 1 + 1) ts r stack d s has.1.1.1)))));
    pays = λ h l d p o.
        fits_joined (Gather ∷ []) (Push list ∷ AddAll ∷ CallGathered ∷ []) (shape h l d (p + 1) o) (shape h (l + 1) d (p + 1) o) (shape h l d p o) (fits_one Gather (shape h l d (p + 1) o) (shape h (l + 1) d (p + 1) o) _ tt refl refl)
        (taken_word dialect AddAll (Push list ∷ []) (CallGathered ∷ []) h l d p o (omega arith, omega arith) refl (push_does dialect list).adds ((gathers_end dialect).pays h l d p o));
  }

pub grown_list : (ws : List Shape) (ts : List Text) (list : Text) (old new : List Instruction) → AllLiteral ws ts → list ≡ written ts → new ≡ old ++ call_of_list list → (dialect : Dialect) → Grown (CommandCode dialect ws) old new
grown_list ws ts list old new all is n dialect = (call_of_list list, n, list_runs dialect ws ts list (all_say ws ts all) (ap elements_of is ∙ reads_back ts))
