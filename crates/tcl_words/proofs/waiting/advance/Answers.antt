use Rattle.std.proofs.Common.{◌-◌, ◌==◌, not, refl, ap, ◌∙◌}
use Rattle.std.specs.Str.{chars}
use Rattle.tcl_words.proofs.GoesOnRuns.{goes_there, opens_there, closes_there, ends_there, open_there}
use Rattle.tcl_words.proofs.waiting.advance.Goals as goal

pub returns-in-Goes : goal.returns-in-Goes
returns-in-Goes c =
    let nested = ap not (c.is_empty-nested.ensures ∙ ap (λ n. n == 0) c.args.outer.now.ok.0) in
    let levels = c.saturating_sub.ensures ∙ ap (λ n. 200 - n) (c.len.ensures ∙ c.args.outer.now.ok.0) in
    let moves = rw c.in-Goes.is at c.in_ok-then.ensures in
    goes_there c.args.outer.now.items c.saturating_sub.result (not c.is_empty-nested.result) c.args.at c.in-Goes.then (chars c.args.text.now) (chars c.in-Goes.rest.now) nested levels moves

pub returns-in_ok-push-in-Opens : goal.returns-in_ok-push-in-Opens
returns-in_ok-push-in-Opens c =
    let nested = ap not (c.is_empty-nested.ensures ∙ ap (λ n. n == 0) c.args.outer.now.ok.0) in
    let levels = c.saturating_sub.ensures ∙ ap (λ n. 200 - n) (c.len.ensures ∙ c.args.outer.now.ok.0) in
    let moves = rw c.in-Opens.is at c.in_ok-then.ensures in
    opens_there c.args.outer.now.items c.push.new.self.items c.saturating_sub.result (not c.is_empty-nested.result) c.in-Opens.quoted c.args.at (chars c.args.text.now) (chars c.in-Opens.rest.now) nested levels
    c.in_ok-push-in-Opens.ensures.items moves.1

pub returns-in-Some : goal.returns-in-Some
returns-in-Some c =
    let moves = rw c.in-Closes.is at c.in_ok-then.ensures in
    closes_there c.args.outer.now.items c.pop.new.self.items (not c.is_empty-nested.result) c.in-Some.quoted c.args.at (chars c.args.text.now) (chars c.in-Closes.rest.now) (ap not (c.is_empty-nested.ensures ∙ ap (λ n. n == 0) c.args.outer.now.ok.0)) c.in-Some.ensures.items moves

pub returns-in-Ends : goal.returns-in-Ends
returns-in-Ends c =
    let moves = rw c.in-Ends.is at c.in_ok-then.ensures in
    (refl, ends_there c.args.outer.now.items (not c.is_empty-nested.result) c.end_verdict.result c.args.at (chars c.args.text.now) (ap not (c.is_empty-nested.ensures ∙ ap (λ n. n == 0) c.args.outer.now.ok.0)) c.end_verdict.ensures moves)

pub returns-in-Open : goal.returns-in-Open
returns-in-Open c =
    let moves = rw c.in-Open.is at c.in_ok-then.ensures in
    (refl, open_there c.args.outer.now.items (not c.is_empty-nested.result) c.args.at (chars c.args.text.now) (ap not (c.is_empty-nested.ensures ∙ ap (λ n. n == 0) c.args.outer.now.ok.0)) moves)
