use Rattle.std.proofs.Common.{◌≡◌, ℕ, ◌-◌, List, length, take, ap, ◌∙◌, arith}
use Rattle.std.specs.List.{slice_range}
use Rattle.std.specs.Str.{chars}
use Rattle.tcl_chars.proofs.Cuts.{rest_le, rest_boundary, chars-before}
use Rattle.tcl_chars.proofs.texts.before.Goals as goal

pub overflow_sub-text : goal.overflow_sub-text
overflow_sub-text c = rest_le c.args.text.now c.args.rest.now c.requires c.utf8.text c.utf8.rest

pub range-requires-clause-end_boundary : goal.range-requires-clause-end_boundary
range-requires-clause-end_boundary c = rest_boundary c.args.text.now c.args.rest.now c.requires c.utf8.text c.utf8.rest

slice_front : (bs : List ℕ) (k : ℕ) → slice_range bs 0 k ≡ take k bs
slice_front bs k = let e : k - 0 ≡ k = omega arith in ap (λ n. take n bs) e

pub returns : goal.returns
returns c = ap chars (c.range.ensures.value ∙ slice_front c.args.text.now (length c.args.text.now - length c.args.rest.now)) ∙ chars-before c.args.text.now c.args.rest.now c.requires c.utf8.text c.utf8.rest
