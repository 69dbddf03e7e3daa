-- A session: the texts of an input are evaluated one after another.
use Rattle.std.specs.Prelude.{ℕ, zero, suc, ◌-◌, ◌^◌, ℤ, pos, negsuc, Bool, true, false, ◌==◌, ◌&&◌, [], ◌∷◌, ◌++◌, Option, Some, None, if◌then◌else◌}
use Rattle.tcl_chars.specs.Characters.{newline}
use Rattle.tcl_chars.specs.Texts.{literal}
use Rattle.tcl_chars.specs.declared.numbers.Dialect.{Dialect}
use Rattle.tcl_words.specs.Complete.{is_complete}
use Rattle.tcl_pages.specs.Texts.{Text}
use Rattle.tcl_meaning.specs.Completions.{Completion, code_number}
use Rattle.tcl_meaning.specs.Effects.{Got, Gives, Untold, on_got, wrote}
use Rattle.tcl_meaning.specs.Run.{args_put, first_store, run_script}
use Rattle.tcl_meaning.specs.State.{Channels, State, stdout, stderr, with_channels, with_input}

-- ---- the text that is taken

-- a text, what is left of the input behind it, and whether the input's end was met
pub record Taken : Type 0 where
  pub text : Text
  pub left : Text
  pub met_end : Bool

-- Behind the characters t the characters cs are taken, up to the first newline that makes a complete text; or all of them, and
-- then the end was met. From no characters on, this is the shortest run of lines that is complete.
unfoldable pub taken_behind : Text → Text → Taken
taken_behind t [] = record { text = t; left = []; met_end = true }
taken_behind t (c ∷ cs) =
    if c == newline && is_complete (t ++ c ∷ []) then (record { text = t ++ c ∷ []; left = cs; met_end = false }) else taken_behind (t ++ c ∷ []) cs

abbrev pub first_text : Text → Taken
first_text cs = taken_behind [] cs

-- the state once the first text was taken of these characters
abbrev pub took_text : Text → State → State
took_text cs s = let taken = first_text cs in with_channels (with_input taken.left taken.met_end s.channels) s

-- ---- what is told

-- the prompt
abbrev pub prompted : State → State
prompted s = wrote stdout (literal "% ") s

-- a result, if it isn't empty
abbrev pub told_result : Text → State → State
told_result [] s = s
told_result (c ∷ cs) s = wrote stdout ((c ∷ cs) ++ newline ∷ []) s

-- an error's message
abbrev pub told_message : Text → State → State
told_message t s = wrote stderr (t ++ newline ∷ []) s

-- A result, or the message of an error. Any other code is told as an error is.
abbrev pub told_by : ℤ → Text → State → State
told_by (pos zero) t s = told_result t s
told_by (pos (suc n)) t s = told_message t s
told_by (negsuc n) t s = told_message t s

abbrev pub told : Completion → State → State
told c s = told_by (code_number c.code) c.result s

-- ---- the session

module _ (dialect : Dialect) where
  -- A text is evaluated, and how it ended is told, and then comes what follows. The empty text ends the session.
  abbrev pub evaluated : (State → Got (Unit {0})) → Text → State → Got (Unit {0})
  evaluated next [] s = Gives tt s
  evaluated next (c ∷ cs) s = on_got (run_script dialect (c ∷ cs) s) (λ completion after. next (told completion after))

  -- The text that the input tells first, and what follows.
  abbrev pub from_input : (State → Got (Unit {0})) → Option Text → State → Got (Unit {0})
  from_input next None s = Untold s.channels
  from_input next (Some cs) s = evaluated next (first_text cs).text (took_text cs s)

  -- Nothing is left to be taken once a call has met the end.
  abbrev pub from_channels : (State → Got (Unit {0})) → Bool → State → Got (Unit {0})
  from_channels next true s = Gives tt s
  from_channels next false s = from_input next s.channels.input s

  -- a prompt, a text, and what follows
  abbrev pub turn : (State → Got (Unit {0})) → State → Got (Unit {0})
  turn next s = from_channels next s.channels.met_end (prompted s)

  -- At most this number of texts is evaluated. The units that one leaves are the next one's.
  unfoldable pub turns : ℕ → State → Got (Unit {0})
  turns zero s = Gives tt s
  turns (suc n) s = turn (turns n) s

-- how many texts are evaluated at most
abbrev pub most_texts : ℕ
most_texts = 2 ^ 63 - 1

-- A session in a dialect over these channels, with this budget.
abbrev pub session : Dialect → Channels → ℕ → Got (Unit {0})
session dialect channels budget = turns dialect most_texts (record { store = first_store (args_put (literal "tclint") []); channels = channels; units = budget })
