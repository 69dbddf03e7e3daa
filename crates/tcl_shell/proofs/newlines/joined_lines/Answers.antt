use Rattle.std.proofs.Common.{[], ◌∷◌, ◌++◌, sym, ap, ◌∙◌}
use Rattle.std.specs.Str.{chars}
use Rattle.std.specs.String.{string_bytes}
use Rattle.std.proofs.lemmas.List.{append_assoc, append-nil}
use Rattle.std.proofs.lemmas.Str.{chars-nil, IsUtf8-past_char}
use Rattle.tcl_chan.specs.Newlines.{joined_newlines}
use Rattle.tcl_shell.proofs.JoinedNewlines.{passed, kept, none_left}
use Rattle.tcl_shell.proofs.newlines.joined_lines.Goals as goal

pub characters-init : goal.characters-init
characters-init c = (c.utf8.text, ap (λ t. chars t ++ joined_newlines (chars c.args.text.now)) c.new-script.ensures.bytes ∙ ap (λ t. t ++ joined_newlines (chars c.args.text.now)) chars-nil)

pub characters-preserved-in_ok-push : goal.characters-preserved-in_ok-push
characters-preserved-in_ok-push c =
    let first = c.in-Some.ensures.parts in
    let left = joined_newlines (chars c.in-Some.after.now) in (
      IsUtf8-past_char _ _ _ c.characters.invariant.0 first.in_bytes,
      ap (λ t. t ++ left) c.in_ok-push.ensures.ok ∙ append_assoc (chars (string_bytes c.characters.script)) (c.in-Some.c ∷ []) left
          ∙ ap (λ t. chars (string_bytes c.characters.script) ++ t) (sym (kept _ _ _ first.in_chars (sym c.is_joined_return.ensures ∙ c.if-not-is_joined_return.true))) ∙ c.characters.invariant.1,
    )

pub characters-preserved : goal.characters-preserved
characters-preserved c =
    let first = c.in-Some.ensures.parts in (
      IsUtf8-past_char _ _ _ c.characters.invariant.0 first.in_bytes,
      ap (λ t. chars (string_bytes c.characters.script) ++ t) (sym (passed _ _ _ first.in_chars (sym c.is_joined_return.ensures ∙ c.if-not-is_joined_return.false))) ∙ c.characters.invariant.1,
    )

pub returns : goal.returns
returns c =
    sym (append-nil (chars (string_bytes c.characters.script)))
    ∙ ap (λ t. chars (string_bytes c.characters.script) ++ t) (sym (none_left _ c.in_default.ensures.parts)) ∙ c.characters.invariant.1
