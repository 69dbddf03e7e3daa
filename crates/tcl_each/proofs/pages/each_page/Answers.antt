use Rattle.std.proofs.Common.{length, ◌/◌, Some, ap, sym, subst, ◌∙◌, Vec, Global}
use Rattle.std.specs.Prelude.{option_map}
use Rattle.std.specs.Str.{chars}
use Rattle.tcl_chars.specs.Answers.{Stops}
use Rattle.tcl_chars.specs.Texts.{text_of}
use Rattle.tcl_chars.specs.declared.fault.Fault.{Fault}
use Rattle.tcl_steps.specs.Asked.{IsAsked}
use Rattle.tcl_pages.specs.Dictionaries.{pairs}
use Rattle.tcl_meaning.specs.Completions.{Completion}
use Rattle.tcl_meaning.specs.Shapes.{loop_lists_of}
use Rattle.tcl_meaning.specs.Tasks.{Done}
use Rattle.tcl_values.specs.declared.value.Value.{Value}
use Rattle.tcl_each.proofs.PageLemmas.{no_body, lists_fail}
use Rattle.tcl_each.proofs.pages.each_page.Goals as goal

pub returns-then-words-pairs : goal.returns-then-words-pairs
returns-then-words-pairs c =
    subst (IsAsked c.usage-then-words-pairs.result)
    (sym (no_body (option_map (λ (v : Vec Value Global). v.items) c.args.results) (chars c.args.form.now) (chars c.args.empty.now) c.args.words.now (length c.args.words.now / 2) c.if-words-pairs.true))
    c.usage-then-words-pairs.ensures

pub returns-in-Err-Error : goal.returns-in-Err-Error
returns-in-Err-Error c =
    lists_fail (option_map (λ (v : Vec Value Global). v.items) c.args.results) (chars c.args.form.now) (chars c.args.empty.now) c.args.words.now (text_of c.in-Err-Error.message) c.if-pairs-eq0.false c.if-words-pairs.false
    (subst (λ (f : Fault). Stops f (loop_lists_of (chars c.args.empty.now) (pairs c.args.words.now))) c.in-Err-Error.field-0-is c.in-Err-Error.ensures.lists)
    ∙ ap (λ (d : Completion). Some (Done d)) (sym c.failure.ensures)
