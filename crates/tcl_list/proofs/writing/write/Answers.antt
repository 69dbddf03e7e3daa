use Rattle.std.proofs.Common.{◌++◌, sym, ap, ◌∙◌, refl, ◌+◌, arith}
use Rattle.std.proofs.lemmas.Bool.{ne_eqb}
use Rattle.std.proofs.lemmas.Str.{chars-nil}
use Rattle.std.specs.Str.{chars}
use Rattle.std.specs.String.{string_bytes}
use Rattle.tcl_list.specs.Written.{appended}
use Rattle.tcl_list.specs.Texts.{text_of}
use Rattle.tcl_list.proofs.Joining.{written_step}
use Rattle.tcl_list.proofs.writing.write.Goals as goal

pub loop-element-init : goal.loop-element-init
loop-element-init c = record { so_far = ap chars c.new-text.ensures.bytes ∙ chars-nil; at_first = refl }

pub loop-element-preserved : goal.loop-element-preserved
loop-element-preserved c =
    let i = c.loop-element.element-index in
    record {
      so_far = written_step text_of c.args.elements.now i c.element-item.result _ _ c.loop-element.first c.loop-element-test.true c.element-item.is c.loop-element.invariant.so_far c.loop-element.invariant.at_first
          (c.in_ok-append_element.ensures.written ∙ ap (λ t. chars (string_bytes c.loop-element.text) ++ appended c.loop-element.first (chars t)) c.as_str.ensures.value);
      at_first = sym (ne_eqb (i + 1) 0 (λ z. omega arith));
    }
