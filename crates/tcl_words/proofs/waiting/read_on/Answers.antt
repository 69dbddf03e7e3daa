use Rattle.std.proofs.Common.{◌≡◌, ℕ, List, ◌++◌, sym, ap, subst, ◌∙◌}
use Rattle.std.proofs.lemmas.Str.{chars-nil}
use Rattle.std.specs.Str.{chars}
use Rattle.std.specs.String.{string_bytes}
use Rattle.tcl_words.specs.Waiting.{in_then, Judges}
use Rattle.tcl_words.proofs.waiting.read_on.Goals as goal

pub returns-clause-alike : goal.returns-clause-alike
returns-clause-alike c =
    let same : chars (string_bytes c.push_text-2.new.text) ≡ chars c.in_ok-at.rest.now =
    c.in_ok-push_text-2.ensures.ok ∙ ap (λ t. chars t ++ chars c.in_ok-at.rest.now) c.new-kept.ensures.bytes ∙ ap (λ t. t ++ chars c.in_ok-at.rest.now) chars-nil in
    let begun : chars c.as_str.result.now ≡ chars (string_bytes c.args.waiting.left) ++ chars c.args.line.now = ap chars c.as_str.ensures.value ∙ c.in_ok-push_text.ensures.ok in
    λ size y.
    ap (λ (t : List ℕ). in_then size c.args.waiting.outer.items c.args.waiting.at (t ++ y)) (sym begun) ∙ c.in_ok-at.ensures.alike size y
    ∙ ap (λ (t : List ℕ). in_then size c.run.new.outer.items c.in_ok-at.at (t ++ y)) (sym same)

pub returns-clause-judges : goal.returns-clause-judges
returns-clause-judges c =
    let same : chars (string_bytes c.push_text-2.new.text) ≡ chars c.in_ok-at.rest.now =
    c.in_ok-push_text-2.ensures.ok ∙ ap (λ t. chars t ++ chars c.in_ok-at.rest.now) c.new-kept.ensures.bytes ∙ ap (λ t. t ++ chars c.in_ok-at.rest.now) chars-nil in
    let P : List ℕ → Type 0 = λ t. Judges c.run.new.outer.items c.in_ok-at.at t c.in_ok-at.verdict in
    subst P (sym same) c.in_ok-at.ensures.judges
