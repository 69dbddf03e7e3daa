use Rattle.std.proofs.Common.{◌≡◌, ℕ, List, ◌++◌, true, false, refl, sym, ap, subst, ◌∙◌}
use Rattle.std.specs.Str.{chars}
use Rattle.std.specs.String.{string_bytes}
use Rattle.std.proofs.lemmas.Str.{chars-nil}
use Rattle.tcl_chan.specs.Worlds.{met_end}
use Rattle.tcl_channels.specs.Shown.{channels_of}
use Rattle.tcl_words.specs.Complete.{is_complete}
use Rattle.tcl_words.specs.Waiting.{Awaits}
use Rattle.tcl_pages.specs.Texts.{Text}
use Rattle.tcl_shell.proofs.TakenLines.{gathering_first, gathering_more, gathering_ended, gathering_whole, taken_alone}
use Rattle.tcl_shell.proofs.Sessions.{same_devices, same_outputs}
use Rattle.tcl_shell.proofs.input.take_text.Goals as goal

pub lines-init : goal.lines-init
lines-init g c =
    let nothing = ap chars c.new-text.ensures.bytes ∙ chars-nil in
    let P : Text → Type 0 = λ t. Awaits c.at_beginning-waiting.result t in (
      c.requires,
      gathering_first (channels_of g.R.Input.to_come g.W.Output.written g.E.Output.written c.args.world.now).input (chars (string_bytes c.new-text.result)) nothing,
      record { stdout = refl; stderr = refl },
      record { stdin = refl; stdout = refl; stderr = refl },
      refl,
      subst P (sym nothing) c.at_beginning-waiting.ensures,
    )

pub returns-then-eof-clause-taken : goal.returns-then-eof-clause-taken
returns-then-eof-clause-taken g c =
    let channels = channels_of g.R.Input.to_come g.W.Output.written g.E.Output.written in
    let world = c.take_line.new.world in
    let joined : chars (string_bytes c.push_text.new.text) ≡ chars (string_bytes c.lines.text) ++ chars (string_bytes c.take_line.new.text) =
    c.in_ok-push_text.ensures.ok ∙ ap (λ (t : List ℕ). chars (string_bytes c.lines.text) ++ chars t) c.as_str.ensures.value in
    let taken =
    taken_alone (chars (string_bytes c.lines.text)) (chars (string_bytes c.new-line.result)) (chars (string_bytes c.take_line.new.text)) (chars (string_bytes c.push_text.new.text)) (channels c.lines.world).input (channels world).input (met_end world)
    (ap chars c.new-line.ensures.bytes ∙ chars-nil) c.in_ok-take_line.ensures.taken joined in
    gathering_ended (channels c.args.world.now).input (chars (string_bytes c.lines.text)) (channels c.lines.world).input (chars (string_bytes c.push_text.new.text)) (channels world).input (met_end world) c.lines.invariant.1 taken (sym c.eof.ensures ∙ c.if-eof.true)

pub is_complete_behind-requires : goal.is_complete_behind-requires
is_complete_behind-requires g c =
    let joined = c.in_ok-push_text.ensures.ok ∙ ap (λ (t : List ℕ). chars (string_bytes c.lines.text) ++ chars t) c.as_str.ensures.value in
    record {
      front = chars (string_bytes c.lines.text);
      awaits = c.lines.invariant.5;
      joined = ap chars c.as_str-in-lines-2.ensures.value ∙ joined ∙ ap (λ (t : List ℕ). chars (string_bytes c.lines.text) ++ chars t) (sym c.as_str-in-lines.ensures.value);
    }

pub returns-then-complete-clause-taken : goal.returns-then-complete-clause-taken
returns-then-complete-clause-taken g c =
    let channels = channels_of g.R.Input.to_come g.W.Output.written g.E.Output.written in
    let world = c.take_line.new.world in
    let joined : chars (string_bytes c.push_text.new.text) ≡ chars (string_bytes c.lines.text) ++ chars (string_bytes c.take_line.new.text) =
    c.in_ok-push_text.ensures.ok ∙ ap (λ (t : List ℕ). chars (string_bytes c.lines.text) ++ chars t) c.as_str.ensures.value in
    let taken =
    taken_alone (chars (string_bytes c.lines.text)) (chars (string_bytes c.new-line.result)) (chars (string_bytes c.take_line.new.text)) (chars (string_bytes c.push_text.new.text)) (channels c.lines.world).input (channels world).input (met_end world)
    (ap chars c.new-line.ensures.bytes ∙ chars-nil) c.in_ok-take_line.ensures.taken joined in
    let whole : is_complete (chars (string_bytes c.push_text.new.text)) ≡ true = ap (λ t. is_complete (chars t)) (sym c.as_str-in-lines-2.ensures.value) ∙ sym c.in_ok-next.ensures.complete ∙ c.if-complete.true in
    gathering_whole (channels c.args.world.now).input (chars (string_bytes c.lines.text)) (channels c.lines.world).input (chars (string_bytes c.push_text.new.text)) (channels world).input (met_end world) c.lines.invariant.1 taken whole

pub lines-preserved : goal.lines-preserved
lines-preserved g c =
    let channels = channels_of g.R.Input.to_come g.W.Output.written g.E.Output.written in
    let world = c.take_line.new.world in
    let joined : chars (string_bytes c.push_text.new.text) ≡ chars (string_bytes c.lines.text) ++ chars (string_bytes c.take_line.new.text) =
    c.in_ok-push_text.ensures.ok ∙ ap (λ (t : List ℕ). chars (string_bytes c.lines.text) ++ chars t) c.as_str.ensures.value in
    let taken =
    taken_alone (chars (string_bytes c.lines.text)) (chars (string_bytes c.new-line.result)) (chars (string_bytes c.take_line.new.text)) (chars (string_bytes c.push_text.new.text)) (channels c.lines.world).input (channels world).input (met_end world)
    (ap chars c.new-line.ensures.bytes ∙ chars-nil) c.in_ok-take_line.ensures.taken joined in
    let took = c.in_ok-take_line.ensures in
    let goes_on = sym c.eof.ensures ∙ c.if-eof.false in
    let waits : is_complete (chars (string_bytes c.push_text.new.text)) ≡ false = ap (λ t. is_complete (chars t)) (sym c.as_str-in-lines-2.ensures.value) ∙ sym c.in_ok-next.ensures.complete ∙ c.if-complete.false in
    let same = ap chars c.as_str-in-lines-2.ensures.value in
    let P : Text → Type 0 = λ t. Awaits c.in_ok-next.next t in (
      goes_on,
      gathering_more (channels c.args.world.now).input (chars (string_bytes c.lines.text)) (channels c.lines.world).input (chars (string_bytes c.push_text.new.text)) (channels world).input (met_end world) c.lines.invariant.1 taken goes_on waits,
      same_outputs c.args.world.now c.lines.world world c.lines.invariant.2 took.outputs,
      same_devices c.args.world.now c.lines.world world c.lines.invariant.3 took.devices,
      took.failures ∙ c.lines.invariant.4,
      subst P same c.in_ok-next.ensures.awaits,
    )
