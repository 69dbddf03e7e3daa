-- What the steps of a session are to the definition.
use Rattle.std.specs.Prelude.{◌≡◌, ℕ, ◌⊎◌, Bool, true, false, List, [], ◌∷◌, ◌++◌, Option, Some, None, Result, Ok, Err}
use Rattle.std.specs.Str.{chars}
use Rattle.tcl_chan.specs.Characters.{line_taken, or_empty}
use Rattle.tcl_channels.specs.Shown.{over}
use Rattle.tcl_chars.specs.Characters.{newline}
use Rattle.tcl_chars.specs.declared.numbers.Dialect.{Dialect}
use Rattle.tcl_pages.specs.Texts.{Text}
use Rattle.tcl_meaning.specs.Agreement.{IsPart}
use Rattle.tcl_meaning.specs.Beginnings.{OutputsBegin}
use Rattle.tcl_meaning.specs.Completions.{Completion}
use Rattle.tcl_meaning.specs.Effects.{Got, Untold, on_got}
use Rattle.tcl_meaning.specs.Frames.{Frame}
use Rattle.tcl_meaning.specs.State.{Commands, Channels, Store, State, Remains}
use Rattle.tcl_interp.specs.Outcome.{Ends, state_left}
use Rattle.tcl_interp.specs.declared.host.Outcome.{Outcome}
use Rattle.tcl_shell.specs.Ends.{EndsSo, end_is_io}
use Rattle.tcl_shell.specs.Session.{Taken, first_text, turn, turns, evaluated, told}
use Rattle.tcl_shell.specs.declared.end.Turn.{Turn}
use Rattle.tcl_shell.specs.declared.end.Turn.TheVariants as the_turn

-- ---- what is taken

abbrev pub unless_ended : Bool → Text
unless_ended true = []
unless_ended false = newline ∷ []

-- a line with its newline, behind the characters t, of an input whose end wasn't met
abbrev pub line_behind : Text → Text → Taken
line_behind t cs =
    let took = line_taken cs false in
    record { text = t ++ (or_empty took.text ++ unless_ended took.left.met_end); left = took.left.chars; met_end = took.left.met_end }

-- The text was taken so from the characters of the input, where they are told.
abbrev pub TakenBy : (Text → Taken) → Option Text → Text → Option Text → Bool → Type 0
TakenBy f None text after met = Unit {0}
TakenBy f (Some cs) text after met = (rest : Text) × (after ≡ Some rest) × (f cs ≡ record { text = text; left = rest; met_end = met })

-- ---- what is written

-- All was written, so that the state is the changed one; or a beginning of it.
abbrev pub Changes : {A E : Type 0} → Result A E → (State → State) → Channels → Channels → Type 0
Changes (Ok x) change before after = (store : Store) (units : ℕ) → change (over store before units) ≡ over store after units
Changes (Err e) change before after = (store : Store) (units : ℕ) → OutputsBegin after (change (over store before units)).channels

-- ---- runs that go on

-- The run asked for input that isn't told, and what it had put out until then begins the outputs of these channels.
pub record Lost {A : Type 0} (got : Got A) (c : Channels) : Type 0 where
  pub channels : Channels
  pub asks : got ≡ Untold channels
  pub begins : OutputsBegin channels c

-- The run comes to what another comes to, which goes on from these channels; or it is lost.
abbrev pub LeadsTo : {A : Type 0} → Got A → Got A → Channels → Type 0
LeadsTo got on c = (got ≡ on) ⊎ Lost got c

-- A text was asked for, and is to be evaluated; or a device failed or memory was refused.
abbrev pub Asked : {E : Type 0} → Result Text E → Channels → Channels → Type 0
Asked (Ok text) before after =
    (d : Dialect) (n : ℕ) (store : Store) (units : ℕ) → LeadsTo (turn d (turns d n) (over store before units)) (evaluated d (turns d n) text (over store after units)) after
Asked (Err e) before after = (d : Dialect) (n : ℕ) (store : Store) (units : ℕ) → IsPart after (turn d (turns d n) (over store before units))

-- What a turn came to, of a session that goes on for at most n texts behind it: the rest of the session, or its end.
abbrev pub TurnEnds : Dialect → ℕ → Turn → Got (Unit {0}) → Remains → Type 0
TurnEnds d n (the_turn.Goes left) got r = LeadsTo got (turns d n (state_left r left)) r.channels
TurnEnds d n (the_turn.Over end) got r = EndsSo end got r

-- the same of a turn over a state, however many texts may follow
abbrev pub Turned : Turn → Dialect → State → Remains → Type 0
Turned t d s r = (n : ℕ) → TurnEnds d n t (turn d (turns d n) s) r

-- what is left, over channels
abbrev pub left_over : Frame → Commands → Channels → Remains
left_over globals commands c = record { globals = globals; commands = commands; channels = c }

-- How a text ended was told, and the session goes on or ends so.
abbrev pub Followed : Outcome → Channels → Turn → Channels → Type 0
Followed outcome before t after =
    (d : Dialect) (n : ℕ) (got : Got Completion) (globals : Frame) (commands : Commands) → Ends outcome got (left_over globals commands before)
    → TurnEnds d n t (on_got got (λ c s. turns d n (told c s))) (left_over globals commands after)

-- a device failed
abbrev pub turn_is_io : Turn → Bool
turn_is_io (the_turn.Goes left) = false
turn_is_io (the_turn.Over end) = end_is_io end

-- the turn was not the last
abbrev pub IfGoes : Turn → Type 0 → Type 0
IfGoes (the_turn.Goes left) p = p
IfGoes (the_turn.Over end) p = Unit {0}
