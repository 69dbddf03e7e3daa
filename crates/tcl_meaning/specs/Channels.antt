-- The commands of channels: puts(n), gets(n), read(n), eof(n), flush(n). In a dialect of numbers.
use Rattle.std.specs.Prelude.{ℕ, Bool, false, ◌==◌, pos, negsuc, ℤ, List, [], ◌∷◌, ◌++◌, length, Ok, Err, if◌then◌else◌}
use Rattle.tcl_chars.specs.Characters.{newline}
use Rattle.tcl_chars.specs.Whole.{whole_of}
use Rattle.tcl_chars.specs.declared.numbers.Dialect.{Dialect}
use Rattle.tcl_chars.specs.Messages.{about, whole_or}
use Rattle.tcl_chars.specs.Texts.{literal}
use Rattle.tcl_pages.specs.Results.{truth_text}
use Rattle.tcl_pages.specs.Texts.{Text, same_text, count_text}
use Rattle.tcl_pages.specs.Answers.{Answer, ◌>>=◌ as answer_then}
use Rattle.tcl_meaning.specs.Completions.{normal, nothing}
use Rattle.tcl_meaning.specs.State.{Output, stdout, stderr}
use Rattle.tcl_meaning.specs.Input.{a_line, so_many, everything}
use Rattle.tcl_meaning.specs.Value.{◌>>=◌, judged, write, take_input, has_ended}
use Rattle.tcl_meaning.specs.Variables.{set}
use Rattle.tcl_meaning.specs.Asking.{Asks, done, usage}

-- ---- channels by their names

-- the input of a script, or one of its outputs
pub data Channel : Type 0 where
  input : Channel
  output : Output → Channel

abbrev pub unknown_channel : Text → Text
unknown_channel name = about (literal "can not find channel named") name []

abbrev pub not_for_writing : Text → Text
not_for_writing name = about (literal "channel") name (literal " wasn't opened for writing")

abbrev pub not_for_reading : Text → Text
not_for_reading name = about (literal "channel") name (literal " wasn't opened for reading")

abbrev pub channel_of : Text → Answer Channel
channel_of name =
    if same_text name (literal "stdin") then Ok input
    else if same_text name (literal "stdout") then Ok (output stdout)
    else if same_text name (literal "stderr") then Ok (output stderr)
    else Err (unknown_channel name)

abbrev pub as_output : Text → Answer Channel → Answer Output
as_output name (Ok (output o)) = Ok o
as_output name (Ok input) = Err (not_for_writing name)
as_output name (Err message) = Err message

abbrev pub as_input : Text → Answer Channel → Answer (Unit {0})
as_input name (Ok input) = Ok tt
as_input name (Ok (output o)) = Err (not_for_reading name)
as_input name (Err message) = Err message

unfoldable pub output_of : Text → Answer Output
output_of name = as_output name (channel_of name)

unfoldable pub input_of : Text → Answer (Unit {0})
input_of name = as_input name (channel_of name)

-- ---- puts

abbrev pub put_text : Answer Output → Text → Asks
put_text to t = do
  o ← judged to
  _ ← write o t
  done nothing

-- a text and a newline
abbrev pub line_of : Text → Text
line_of t = t ++ newline ∷ []

abbrev pub is_nonewline : Text → Bool
is_nonewline word = same_text word (literal "-nonewline")

abbrev pub puts_usage : Text
puts_usage = literal "puts ?-nonewline? ?channelId? string"

-- puts ?-nonewline? ?channelId? string
unfoldable pub puts_page : List Text → Asks
puts_page (t ∷ []) = put_text (Ok stdout) (line_of t)
puts_page (first ∷ t ∷ []) = if is_nonewline first then put_text (Ok stdout) t else put_text (output_of first) (line_of t)
puts_page (first ∷ channel ∷ t ∷ []) = if is_nonewline first then put_text (output_of channel) t else usage puts_usage
puts_page _ = usage puts_usage

-- ---- gets, read

-- a text without the newline at its end, if one is there
unfoldable pub without_newline : Text → Text
without_newline [] = []
without_newline (c ∷ []) = if c == newline then [] else c ∷ []
without_newline (c ∷ d ∷ cs) = c ∷ without_newline (d ∷ cs)

-- how long the line is that was taken; -1 where nothing was left
abbrev pub line_count : Text → Text
line_count [] = literal "-1"
line_count (c ∷ cs) = count_text (length (without_newline (c ∷ cs)))

-- gets channelId ?varName?
unfoldable pub gets_page : List Text → Asks
gets_page (channel ∷ []) = do
  _ ← judged (input_of channel)
  line ← take_input a_line
  done (normal (without_newline line))
gets_page (channel ∷ name ∷ []) = do
  _ ← judged (input_of channel)
  line ← take_input a_line
  _ ← set name (without_newline line)
  done (normal (line_count line))
gets_page _ = usage (literal "gets channelId ?varName?")

abbrev pub no_count : Text → Text
no_count t = about (literal "expected non-negative integer but got") t []

abbrev pub not_negative : Text → ℤ → Answer ℕ
not_negative t (pos n) = Ok n
not_negative t (negsuc n) = Err (no_count t)

abbrev pub taken_whole : Text → Asks
taken_whole channel = do
  _ ← judged (input_of channel)
  t ← take_input everything
  done (normal t)

abbrev pub taken_without_newline : Text → Asks
taken_without_newline channel = do
  _ ← judged (input_of channel)
  t ← take_input everything
  done (normal (without_newline t))

-- ---- eof, flush

-- an output never meets an end
abbrev pub said_ended : Channel → Asks
said_ended input = do
  b ← has_ended
  done (normal (truth_text b))
said_ended (output o) = done (normal (truth_text false))

-- eof channelId
unfoldable pub eof_page : List Text → Asks
eof_page (channel ∷ []) = judged (channel_of channel) >>= said_ended
eof_page _ = usage (literal "eof channelId")

-- flush channelId: nothing was held back
unfoldable pub flush_page : List Text → Asks
flush_page (channel ∷ []) = do
  _ ← judged (output_of channel)
  done nothing
flush_page _ = usage (literal "flush channelId")

module _ (dialect : Dialect) where
  abbrev pub count_of : Text → Answer ℕ
  count_of t = answer_then (whole_or (no_count t) (whole_of dialect t)) (not_negative t)

  abbrev pub taken_count : Text → Text → Asks
  taken_count channel count = do
    _ ← judged (input_of channel)
    n ← judged (count_of count)
    t ← take_input (so_many n)
    done (normal t)

  -- read channelId ?numChars?, or read -nonewline channelId
  unfoldable pub read_page : List Text → Asks
  read_page (channel ∷ []) = taken_whole channel
  read_page (first ∷ second ∷ []) = if is_nonewline first then taken_without_newline second else taken_count first second
  read_page _ = usage (literal "read channelId ?numChars?")
