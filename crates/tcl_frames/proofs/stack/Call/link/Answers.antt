use Rattle.std.proofs.Common.{◌≡◌, sym, ap, ◌∙◌, eqb-true}
use Rattle.std.specs.FinMap as map
use Rattle.std.specs.FinMap.{empty_of_len, get-empty}
use Rattle.std.specs.Str.{chars}
use Rattle.tcl_chars.specs.Texts.{by_code_point}
use Rattle.tcl_meaning.specs.Frames.{Frame}
use Rattle.tcl_frames.proofs.stack.Call.link.Goals as goal

pub returns-then-is_empty : goal.returns-then-is_empty
returns-then-is_empty c =
    let q = chars c.args.name.now in
    let none : c.self.inside.links ≡ map.empty = empty_of_len c.self.inside.links (eqb-true _ _ (sym c.is_empty.ensures ∙ c.if-is_empty.true)) in
    sym (ap (λ (f : Frame). map.get f.links q) (sym c.self.view_is) ∙ ap (λ l. map.get l q) none ∙ get-empty by_code_point q)
