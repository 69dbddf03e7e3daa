-- A complete text is closed: it ends in no hidden newline, and no command in it is open.
use Rattle.std.proofs.Common.{◌≡◌, ℕ, Bool, true, false, not, List, Result, Ok, Err, refl, sym, ap, ◌∙◌}
use Rattle.std.proofs.lemmas.Bool.{and_from, and_parts, not-true, true≢false}
use Rattle.tcl_chars.specs.Place.{bytes}
use Rattle.tcl_chars.specs.Reading.{◌>>=◌}
use Rattle.tcl_words.specs.declared.fault.Syntax.{Syntax}
use Rattle.tcl_words.specs.Complete.{ends_hidden, is_open, ends_open, after_all}
use Rattle.tcl_words.specs.Faults.{BadCommands}
use Rattle.tcl_words.specs.First.{most_levels}
use Rattle.tcl_words.specs.Laws.{CompleteIsClosed}
use Rattle.tcl_words.specs.Parts.{Shape}
use Rattle.tcl_words.specs.Words.{inner_at, commands_at, after_commands}
use Rattle.tcl_words.proofs.FaultIsFound.{commands_found, faults_found}
use Rattle.tcl_words.proofs.FoundIsFault.{commands_bad, nest_found}
use Rattle.tcl_words.proofs.OneReading.{if_err}

is_not : (b : Bool) → b ≡ false → not b ≡ true
is_not true h = absurd (true≢false h)
is_not false h = refl

bad_all : (cs : List ℕ) (m : Syntax) → BadCommands (bytes cs) most_levels false cs m → after_all cs ≡ Err m
unfolding after_commands
bad_all cs m b = rw (commands_found (bytes cs) most_levels false cs m b (faults_found (bytes cs) most_levels)) refl

none_open : (cs : List ℕ) (r : Result (List (List Shape) × List ℕ) Syntax) → commands_at (bytes cs) (inner_at (bytes cs) most_levels) false cs ≡ r → ((m : Syntax) → BadCommands (bytes cs) most_levels false cs m → is_open m ≡ false)
    → ends_open (r >>= λ found. Ok found.1) ≡ false
none_open cs (Ok x) e h = refl
none_open cs (Err m) e h = h m (if_err (BadCommands (bytes cs) most_levels false cs) (commands_at (bytes cs) (inner_at (bytes cs) most_levels) false cs) m (commands_bad (bytes cs) most_levels (nest_found (bytes cs) most_levels) false cs) e)

all_closed : (cs : List ℕ) → ((m : Syntax) → BadCommands (bytes cs) most_levels false cs m → is_open m ≡ false) → ends_open (after_all cs) ≡ false
unfolding after_commands
all_closed cs h = none_open cs (commands_at (bytes cs) (inner_at (bytes cs) most_levels) false cs) refl h

pub complete_is_closed : CompleteIsClosed
complete_is_closed cs = (
  λ e.
      let both = and_parts (not (ends_hidden false false cs)) (not (ends_open (after_all cs))) e in
      (not-true (ends_hidden false false cs) both.0, λ m b. sym (ap ends_open (bad_all cs m b)) ∙ not-true (ends_open (after_all cs)) both.1),
  λ (h, k). and_from (not (ends_hidden false false cs)) (not (ends_open (after_all cs))) (is_not (ends_hidden false false cs) h) (is_not (ends_open (after_all cs)) (all_closed cs k)),
)
