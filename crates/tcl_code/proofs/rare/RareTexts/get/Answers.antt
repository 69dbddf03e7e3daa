use Rattle.tcl_code.proofs.RareLemmas.{in_order, starts, ends, got}
use Rattle.tcl_code.proofs.rare.RareTexts.get.Goals as goal

pub range-requires-clause-start_le_end : goal.range-requires-clause-start_le_end
range-requires-clause-start_le_end c = in_order _ _ _ _ _ c.in_ok-stretch.ensures c.as_slice.ensures.value c.self.invariant _ c.as_str.ensures.value

pub range-requires-clause-start_boundary : goal.range-requires-clause-start_boundary
range-requires-clause-start_boundary c = λ _. starts _ _ _ _ _ c.in_ok-stretch.ensures c.as_slice.ensures.value c.self.invariant _ c.as_str.ensures.value

pub range-requires-clause-end_boundary : goal.range-requires-clause-end_boundary
range-requires-clause-end_boundary c = ends _ _ _ _ _ c.in_ok-stretch.ensures c.as_slice.ensures.value c.self.invariant _ c.as_str.ensures.value

pub returns : goal.returns
returns c = got _ _ _ _ _ c.in_ok-stretch.ensures c.as_slice.ensures.value c.self.invariant _ c.as_str.ensures.value _ _ c.self.view_is c.range.ensures.value
