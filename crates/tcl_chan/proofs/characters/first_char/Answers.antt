use Rattle.std.proofs.Common.{inl, inr, ⊎_elim, arith, sym, ◌∙◌}
use Rattle.std.proofs.lemmas.Bool.{false≢true}
use Rattle.tcl_chan.proofs.Fronts.{goes_on}
use Rattle.tcl_chan.proofs.Steps.{front-char, front-bad, front-last_return, front-return, front-pair}
use Rattle.tcl_chan.proofs.characters.first_char.Goals as goal

pub returns-then-whole-clause-first : goal.returns-then-whole-clause-first
returns-then-whole-clause-first c = front-last_return c.args.bytes.now c.args.whole (c.if-bytes-eq1.true) (c.if-bytes-eq13.true) c.if-whole.true

pub returns-then-joined-clause-first : goal.returns-then-joined-clause-first
returns-then-joined-clause-first c = front-pair c.args.bytes.now c.args.whole (omega (arith, c.requires, c.if-bytes-eq1.false)) c.if-bytes-eq13.true c.if-joined.true

pub returns-else-joined-clause-first : goal.returns-else-joined-clause-first
returns-else-joined-clause-first c = front-return c.args.bytes.now c.args.whole (omega (arith, c.requires, c.if-bytes-eq1.false)) c.if-bytes-eq13.true c.if-joined.false

pub returns-in-Some-clause-first : goal.returns-in-Some-clause-first
returns-in-Some-clause-first c =
    front-char c.args.bytes.now c.args.whole c.in-Some.c c.decode-found.result.1 c.requires c.if-bytes-eq13.false
    (sym c.in-Some.is ∙ c.decode-found.ensures.char) c.decode-found.ensures.size

pub returns-then-broken-clause-first : goal.returns-then-broken-clause-first
returns-then-broken-clause-first c =
    front-bad c.args.bytes.now c.args.whole c.decode-found.result.1 c.requires c.if-bytes-eq13.false
    (sym c.in-None.is ∙ c.decode-found.ensures.char) c.decode-found.ensures.size
    (⊎_elim (λ all. inl all) (λ other. inr (c.is_broken-broken.ensures.0 other.1)) c.if-broken.either)

pub returns-else-broken-clause-at_once : goal.returns-else-broken-clause-at_once
returns-else-broken-clause-at_once c = λ none.
    goes_on c.args.bytes.now c.decode-found.result.1 (sym c.in-None.is ∙ c.decode-found.ensures.char) c.decode-found.ensures.size
    (λ why. false≢true (sym c.if-broken.false.1 ∙ c.is_broken-broken.ensures.1 why))
