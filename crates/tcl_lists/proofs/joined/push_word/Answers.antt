use Rattle.std.proofs.Common.{ap, sym, ◌∙◌, ◌++◌}
use Rattle.std.proofs.lemmas.Result.{on_ok_weaker}
use Rattle.std.specs.Str.{chars}
use Rattle.std.specs.String.{string_bytes}
use Rattle.tcl_lists.specs.Joined.{is_empty}
use Rattle.tcl_lists.proofs.Joining.{left_out, stands_behind}
use Rattle.tcl_lists.proofs.joined.push_word.Goals as goal

pub returns-then-is_empty : goal.returns-then-is_empty
returns-then-is_empty c = left_out _ _ (sym c.if-is_empty.ensures)

pub returns : goal.returns
returns c =
    let behind = stands_behind (chars (string_bytes c.args.joined.now)) (chars c.args.word.now) (sym c.if-is_empty.ensures) (sym (c.if-is_empty-2.ensures ∙ ap (λ bs. is_empty (chars bs)) c.as_str.ensures.value)) in
    on_ok_weaker c.push_text-2.result (λ h. h ∙ ap (λ u. u ++ chars c.args.word.now) c.in_ok-push.ensures.ok ∙ behind) c.push_text-2.ensures.ok
