use Rattle.std.proofs.Common.{rules, ◌≡◌, FitsSigned, ◌∙◌, sym}
use Rattle.std.specs.Fmt.{signed_decimal}
use Rattle.std.specs.Int.{w64}
use Rattle.tcl_chars.specs.Texts.{text_of}
use Rattle.tcl_lists.proofs.NumberPatterns.{same_numbers}
use Rattle.tcl_lists.proofs.pattern.Pattern.is.Goals as goal

pub returns-in-Some-Some : goal.returns-in-Some-Some
returns-in-Some-Some c =
    let own : FitsSigned w64 c.in-Some-Some.own = search rules in
    let fits : FitsSigned w64 c.in-Some-Some.number = search rules in
    let number : text_of c.self.inside.text ≡ signed_decimal c.in-Some-Some.number = search rules in
    same_numbers c.in-Some-Some.own c.in-Some-Some.number c.args.self.now _ own fits c.in-Some-Some.ensures (sym c.self.view_is ∙ number)
