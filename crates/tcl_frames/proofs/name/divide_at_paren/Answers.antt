use Rattle.std.proofs.Common.{◌≡◌, ◌+◌, ◌-◌, ◌<◌, ◌≤◌, length, take, ap, subst, ◌∙◌, arith}
use Rattle.std.proofs.lemmas.Slice.{between_from_start}
use Rattle.std.specs.Prelude.{slice_range}
use Rattle.std.specs.Str.{chars, IsCharBoundary}
use Rattle.tcl_meaning.specs.Names.{whole_name, element_name, divided_name}
use Rattle.tcl_frames.proofs.Parens.{nothing_last, open_whole, closed_whole, paren_there, room, before_paren, behind_paren, parted}
use Rattle.tcl_frames.proofs.name.divide_at_paren.Goals as goal
use Rattle.tcl_frames.proofs.name.divide_at_paren.Goals.{then-size-eq0-via-then-size-eq0, then-size-eq0-via-else-size-eq0+then-bytes-size-ne41}

pub returns-then-size-eq0 : goal.returns-then-size-eq0
returns-then-size-eq0 c =
    let bs = c.as_bytes-bytes.result.now in
    c.whole_name.ensures
    ∙ subst (λ t. whole_name (chars t) ≡ divided_name (chars t)) c.as_bytes-bytes.ensures.value (open_whole bs c.as_bytes-bytes.ensures.utf8 (elim c.then-size-eq0.branch [
      | then-size-eq0-via-then-size-eq0 w ↦ nothing_last bs w.if-size-eq0.true
      | then-size-eq0-via-else-size-eq0+then-bytes-size-ne41 w ↦ w.if-bytes-size-ne41.true
    ]))

pub returns-then-at-size : goal.returns-then-at-size
returns-then-at-size c =
    let bs = c.as_bytes-bytes.result.now in
    c.whole_name-then-at-size.ensures
    ∙ subst (λ t. whole_name (chars t) ≡ divided_name (chars t)) c.as_bytes-bytes.ensures.value (closed_whole bs c.as_bytes-bytes.ensures.utf8 (omega (arith, c.if-size-eq0.false)) c.if-bytes-size-ne41.false (omega (arith, c.paren_in-at.ensures, c.if-at-size.true)))

pub range-requires-clause-end_boundary : goal.range-requires-clause-end_boundary
range-requires-clause-end_boundary c =
    let bs = c.as_bytes-bytes.result.now in
    let n = c.paren_in-at.result in
    subst (λ t. IsCharBoundary t n) c.as_bytes-bytes.ensures.value (before_paren bs c.as_bytes-bytes.ensures.utf8 (omega (arith, c.if-size-eq0.false)) c.if-bytes-size-ne41.false n c.paren_in-at.ensures (paren_there bs n c.paren_in-at.ensures c.if-at-size.false))

pub range-requires-2-clause-start_le_end : goal.range-requires-2-clause-start_le_end
range-requires-2-clause-start_le_end c =
    let bs = c.as_bytes-bytes.result.now in
    let n = c.paren_in-at.result in
    room bs c.as_bytes-bytes.ensures.utf8 (omega (arith, c.if-size-eq0.false)) c.if-bytes-size-ne41.false n c.paren_in-at.ensures (paren_there bs n c.paren_in-at.ensures c.if-at-size.false)

pub range-requires-2-clause-start_boundary : goal.range-requires-2-clause-start_boundary
range-requires-2-clause-start_boundary c = λ some.
    let bs = c.as_bytes-bytes.result.now in
    let n = c.paren_in-at.result in
    subst (λ t. IsCharBoundary t (n + 1)) c.as_bytes-bytes.ensures.value (behind_paren bs c.as_bytes-bytes.ensures.utf8 (omega (arith, c.if-size-eq0.false)) c.if-bytes-size-ne41.false n c.paren_in-at.ensures (paren_there bs n c.paren_in-at.ensures c.if-at-size.false))

pub returns : goal.returns
returns c =
    let bs = c.as_bytes-bytes.result.now in
    let n = c.paren_in-at.result in
    c.element_name.ensures
    ∙ ap (λ t. element_name (chars t) (chars c.range-2.result.now)) (c.range.ensures.value ∙ between_from_start c.args.name.now n)
    ∙ ap (λ t. element_name (chars (take n c.args.name.now)) (chars t)) c.range-2.ensures.value
    ∙ subst (λ t. element_name (chars (take n t)) (chars (slice_range t (n + 1) (length bs - 1))) ≡ divided_name (chars t)) c.as_bytes-bytes.ensures.value
    (parted bs c.as_bytes-bytes.ensures.utf8 (omega (arith, c.if-size-eq0.false)) c.if-bytes-size-ne41.false n c.paren_in-at.ensures (paren_there bs n c.paren_in-at.ensures c.if-at-size.false))
