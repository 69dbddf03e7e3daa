-- What commands of channels are told to do, by their words.
use Rattle.std.specs.Prelude.{◌≡◌, ℕ, Bool, true, length, Option, Some, None, Result, Ok, Err, if◌then◌else◌}
use Rattle.tcl_chars.specs.Texts.{literal, text_of}
use Rattle.tcl_chars.specs.declared.numbers.Dialect.{Dialect}
use Rattle.tcl_meaning.specs.Asking.{Asks, done}
use Rattle.tcl_meaning.specs.Channels.{Channel, input, output, put_text, line_of, without_newline, line_count, input_of, count_of}
use Rattle.tcl_meaning.specs.Effects.{Plain}
use Rattle.tcl_meaning.specs.Value.{Value, give, fail, judged, ◌>>=◌, take_input}
use Rattle.tcl_meaning.specs.Completions.{normal}
use Rattle.tcl_meaning.specs.Input.{Want, a_line, so_many, everything}
use Rattle.tcl_meaning.specs.Variables.{set}
use Rattle.tcl_pages.specs.Texts.{Text, count_text}
use Rattle.tcl_steps.specs.declared.completion.Completion.{Completion}
use Rattle.tcl_steps.specs.declared.fault.Fault.{Fault}
use Rattle.tcl_steps.specs.declared.fault.Fault.TheVariants as fault
use Rattle.tcl_steps.specs.declared.stop.Stop.{Stop}
use Rattle.tcl_steps.specs.declared.stop.Stop.TheVariants as stop
use Rattle.tcl_channels.specs.Shown.{output_at}
use Rattle.tcl_channels.specs.declared.names.Channel.{Channel as Named}
use Rattle.tcl_channels.specs.declared.names.Channel.TheVariants as named
use Rattle.tcl_channels.specs.declared.output.Put.{Put}

-- The program goes on as the value says, or stops with the script's error; or memory was refused.
abbrev pub Orders : {A B : Type 0} → (A → Plain (Value B)) → Plain (Value B) → Result A Stop → Type 0
Orders go p (Ok a) = p ≡ go a
Orders go p (Err (stop.Error c)) = p ≡ fail c
Orders go p (Err stop.Memory) = Unit {0}

-- the same, of a value alone
abbrev pub Tells : {A B : Type 0} → (A → B) → Plain (Value B) → Result A Stop → Type 0
Tells view p result = Orders (λ a. give (view a)) p result

abbrev pub channel_at : Named → Channel
channel_at named.Input = input
channel_at (named.Output to) = output (output_at to)

-- ---- puts

abbrev pub text_to_put : Bool → Text → Text
text_to_put newline t = if newline then line_of t else t

abbrev pub put_of : Put → Asks
put_of put = put_text (Ok (output_at put.to)) (text_to_put put.newline (text_of put.text))

-- ---- what stops a command

abbrev pub Halts : Stop → Result Completion Fault → Type 0
Halts (stop.Error c) result = result ≡ Ok c
Halts stop.Memory result = result ≡ Err fault.Memory

-- a command that a stop may end
abbrev pub Closed : Result Completion Stop → Result Completion Fault → Type 0
Closed (Ok c) result = result ≡ Ok c
Closed (Err s) result = Halts s result

-- a page that goes on where the channel of a name is an input
abbrev pub from_input : Text → Asks → Asks
from_input channel page = do
  _ ← judged (input_of channel)
  page

-- ---- gets

-- how long a line is said to be; -1 where nothing was left
abbrev pub line_said : Option Text → Text
line_said None = literal "-1"
line_said (Some t) = count_text (length t)

-- a line is the answer; or it is a variable's, and the answer is how long it is
abbrev pub kept : Option Text → Text → Text → Asks
kept None line count = done (normal line)
kept (Some name) line count = do
  _ ← set name line
  done (normal count)

abbrev pub gets_into : Option Text → Asks
gets_into name = do
  line ← take_input a_line
  kept name (without_newline line) (line_count line)

-- ---- read

-- a number of characters, or all
abbrev pub want_of : Option ℕ → Want
want_of None = everything
want_of (Some n) = so_many n

abbrev pub text_read : Bool → Text → Text
text_read newline t = if newline then t else without_newline t

abbrev pub read_from : Option ℕ → Bool → Asks
read_from count newline = do
  t ← take_input (want_of count)
  done (normal (text_read newline t))

-- as many characters as a text says
abbrev pub counted_page : Dialect → Text → Asks
counted_page dialect count = do
  n ← judged (count_of dialect count)
  read_from (Some n) true
