use Rattle.std.proofs.Common.{List, Some, subst}
use Rattle.tcl_chars.specs.Texts.{literal}
use Rattle.tcl_meaning.specs.Control.{each_shaped, lmap_page}
use Rattle.tcl_meaning.specs.Shapes.{each_shape}
use Rattle.tcl_pages.specs.Texts.{Text}
use Rattle.tcl_steps.specs.Asked.{IsAsked}
use Rattle.tcl_each.proofs.pages.lmap_page.Goals as goal

pub returns : goal.returns
unfolding lmap_page
returns c =
    subst (λ (ts : List Text). IsAsked c.each_page.result (each_shaped (Some ts) (literal "lmap varList list ?varList list ...? command") (literal "lmap varlist is empty") (each_shape c.args.words.now))) c.new.ensures.items c.each_page.ensures
