use Rattle.std.proofs.Common.{◌≡◌, length, take, subst, sym, ap, ◌∙◌}
use Rattle.std.specs.Str.{IsCharBoundary}
use Rattle.std.specs.String.{string_bytes}
use Rattle.std.proofs.lemmas.Str.{IsUtf8-string_bytes}
use Rattle.tcl_list.proofs.Cutting.{old_end, cut_back}
use Rattle.tcl_list.proofs.writing.append_element.Goals as goal

pub truncate-requires : goal.truncate-requires
truncate-requires c =
    let size : length (string_bytes c.args.text.now) ≡ c.len-size.result = sym c.args.text.now.bytes.ok.0 ∙ sym c.len-size.ensures in
    let cut = subst (IsCharBoundary (string_bytes c.push_element.new.text)) size (old_end _ _ c.in-Err.ensures (IsUtf8-string_bytes c.args.text.now) (IsUtf8-string_bytes c.push_element.new.text)) in
    λ _. (cut.0, λ _. cut.1)

pub returns-in-Err-clause-same : goal.returns-in-Err-clause-same
returns-in-Err-clause-same c =
    let size : length (string_bytes c.args.text.now) ≡ c.len-size.result = sym c.args.text.now.bytes.ok.0 ∙ sym c.len-size.ensures in
    c.truncate.ensures.bytes ∙ ap (λ n. take n (string_bytes c.push_element.new.text)) (sym size) ∙ cut_back _ _ c.in-Err.ensures (IsUtf8-string_bytes c.args.text.now) (IsUtf8-string_bytes c.push_element.new.text)
