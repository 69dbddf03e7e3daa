use Rattle.std.proofs.Common.{sym, ap, ◌∙◌}
use Rattle.std.specs.Str.{chars}
use Rattle.tcl_chars.specs.Messages.{about}
use Rattle.tcl_chars.specs.Texts.{literal, text_of}
use Rattle.tcl_meaning.specs.Names.{divided_name, is_element, is_global}
use Rattle.tcl_procs.specs.Reading.{is_empty}
use Rattle.tcl_procs.proofs.ReadingLemmas.{element_said, global_said}
use Rattle.tcl_procs.proofs.formals.simple_formal.Goals as goal

pub returns-then-is_element : goal.returns-then-is_element
returns-then-is_element c =
    element_said (text_of c.args.name) _ (text_of c.in_ok-said.said)
    (ap is_empty (sym (ap chars c.as_str.ensures.value)) ∙ sym c.is_empty.ensures ∙ c.if-is_empty.false)
    (ap (λ t. is_element (divided_name t).part) (sym (ap chars c.as_str-2.ensures.value)) ∙ sym c.is_element.ensures ∙ c.if-is_element.true)
    (c.in_ok-said.ensures ∙ ap (λ t. about (literal "formal parameter") t (literal " is an array element")) (ap chars c.as_str-then-is_element.ensures.value))

pub returns-then-is_global : goal.returns-then-is_global
returns-then-is_global c =
    global_said (text_of c.args.name) _ (text_of c.in_ok-said-2.said)
    (ap is_empty (sym (ap chars c.as_str.ensures.value)) ∙ sym c.is_empty.ensures ∙ c.if-is_empty.false)
    (ap (λ t. is_element (divided_name t).part) (sym (ap chars c.as_str-2.ensures.value)) ∙ sym c.is_element.ensures ∙ c.if-is_element.false)
    (ap is_global (sym (ap chars c.as_str-3.ensures.value)) ∙ sym c.is_global.ensures ∙ c.if-is_global.true)
    (c.in_ok-said-2.ensures ∙ ap (λ t. about (literal "formal parameter") t (literal " is not a simple name")) (ap chars c.as_str-then-is_global.ensures.value))
