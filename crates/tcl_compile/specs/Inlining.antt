-- Words whose texts are literal, and what code does behind a guard.
use Rattle.std.specs.Prelude.{◌≡◌, ℕ, ◌+◌, false, List, [], ◌∷◌, length}
use Rattle.tcl_chars.specs.declared.numbers.Dialect.{Dialect}
use Rattle.tcl_words.specs.Parts.{Shape}
use Rattle.tcl_pages.specs.Texts.{Text}
use Rattle.tcl_meaning.specs.Completions.{Completion}
use Rattle.tcl_meaning.specs.Asking.{Asks, answered, value_step}
use Rattle.tcl_meaning.specs.Effects.{Prog, Gives, exec, plainly, ◌>>=◌ as andthen}
use Rattle.tcl_meaning.specs.Pages.{owed}
use Rattle.tcl_meaning.specs.Script.{Run}
use Rattle.tcl_meaning.specs.State.{State}
use Rattle.tcl_meaning.specs.Substitution.{pieces_text}
use Rattle.tcl_meaning.specs.Tasks.{Task}
use Rattle.tcl_meaning.specs.Value.{Has}
use Rattle.tcl_code.specs.Instructions.{Instruction}
use Rattle.tcl_code.specs.Machine.{Stack, with_text, with_result, result_at, spot}
use Rattle.tcl_code.specs.Parts.{Fits, Keeps, HasAt, Lands}
use Rattle.tcl_code.specs.Valid.{shape}

-- a word that is one, and has the same text in every state
pub record Says (w : Shape) (t : Text) : Type 0 where
  pub one : w.expands ≡ false
  pub text : (dialect : Dialect) (d : ℕ) (s : State) → exec (Run dialect) (pieces_text d w.pieces) s ≡ Gives (Has t) s

abbrev pub AllSay : List Shape → List Text → Type 0
AllSay [] [] = Unit {0}
AllSay (w ∷ ws) (t ∷ ts) = Says w t × AllSay ws ts
AllSay _ _ = ⊥

module _ (dialect : Dialect) where
  -- what is left of a page that has asked, in so many questions more at most
  abbrev pub asking : ℕ → Asks → ℕ → Prog Task Completion
  asking n page d = andthen (plainly page) (λ next. answered dialect (owed dialect) d n (value_step next))

  -- Behind a guard, these instructions do what a page does, in place of the script's last completion.
  pub record Makes (c : List Instruction) (f : ℕ → Prog Task Completion) : Type 0 where
    pub from : (code : List Instruction) (at : ℕ) (last : Completion) (stack : Stack) (d : ℕ) (s : State) → HasAt code at c → Lands dialect code stack.loops (spot at (with_result last stack) d) s (result_at (at + length c) stack d) (exec (Run dialect) (f d) s)
    pub keeps : Keeps c

  -- these do what a program does with the text on top, in place of the script's last completion; of the commands that are paid for, q
  -- are there before, and r behind them
  pub record Uses (q r : ℕ) (c : List Instruction) (f : ℕ → Text → Prog Task Completion) : Type 0 where
    pub from : (code : List Instruction) (at : ℕ) (t : Text) (last : Completion) (stack : Stack) (d : ℕ) (s : State) → HasAt code at c → Lands dialect code stack.loops (spot at (with_text t (with_result last stack)) d) s (result_at (at + length c) stack d) (exec (Run dialect) (f d t) s)
    pub fits : (h l d p o : ℕ) → Fits c (shape (h + 1) l d (p + q) o) (shape h l d (p + r) o)
