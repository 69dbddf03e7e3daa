use Rattle.std.proofs.Common.{Some, None, sym, ap, subst, ◌∙◌}
use Rattle.std.specs.Prelude.{option_map}
use Rattle.tcl_steps.specs.Asked.{IsAsked}
use Rattle.tcl_control.proofs.ChoiceLemmas.{if_is}
use Rattle.tcl_steps.specs.Views.{others_of}
use Rattle.tcl_control.proofs.choices.if_page.Goals as goal

pub returns-in-Some : goal.returns-in-Some
returns-in-Some c =
    subst (IsAsked c.next_clause.result) (sym (if_is c.args.words.now (Some (others_of c.in-Some.others)) (sym (ap (option_map others_of) c.in-Some.is) ∙ c.in_ok-others.ensures)))
    c.next_clause.ensures

pub returns-in-None : goal.returns-in-None
returns-in-None c = subst (IsAsked c.usage.result) (sym (if_is c.args.words.now None (sym (ap (option_map others_of) c.in-None.is) ∙ c.in_ok-others.ensures))) c.usage.ensures
