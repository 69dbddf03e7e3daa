use Rattle.std.proofs.Common.{Ok, sym, ap, ◌∙◌, rules, w64, FitsSigned}
use Rattle.std.proofs.lemmas.Int.{to_z-of_z}
use Rattle.tcl_lists.proofs.LsortLemmas.{number_kept}
use Rattle.tcl_lists.proofs.sort.number_of.Goals as goal

pub returns-in-Some : goal.returns-in-Some
returns-in-Some c =
    let f : FitsSigned w64 c.in-Some.number = search rules in
    number_kept c.args.dialect c.in-Some.number c.args.element.now.text f c.in-Some.ensures ∙ ap Ok (sym (to_z-of_z w64 c.in-Some.number f))
