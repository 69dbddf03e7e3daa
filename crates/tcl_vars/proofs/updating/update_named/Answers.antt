use Rattle.std.proofs.Common.{◌+◌, ◌-◌, List, [], ◌∷◌, ◌++◌, refl, ap, length, take, drop, ◌∙◌, arith}
use Rattle.std.proofs.lemmas.List.{length-drop, take_rest}
use Rattle.tcl_chars.specs.Texts.{literal}
use Rattle.tcl_pages.specs.Texts.{Text}
use Rattle.tcl_vars.proofs.AssignLemmas.{names_are}
use Rattle.tcl_vars.proofs.One.{one_behind}
use Rattle.tcl_vars.proofs.UpdateLemmas.{ends_with_one, ends_behind, some_word}
use Rattle.tcl_vars.proofs.updating.update_named.Goals as goal

pub and_one-requires : goal.and_one-requires
and_one-requires c =
    let ws = c.args.words.now in
    one_behind c.args.page (length ws) _ (c.adds_one.ensures.yes c.if-adds_one.true) (ap (λ (vs : List Text). length vs + 1) (names_are ws ws refl) ∙ omega (arith, length-drop 1 ws, some_word c.args.page (length ws) c.requires.fits))

pub returns-then-adds_one : goal.returns-then-adds_one
returns-then-adds_one c =
    let ws = c.args.words.now in
    ends_with_one c.args.dialect c.args.page ws _ c.args.name.now c.args.frames.now c.update_variable.new.frames c.update_variable.result (c.adds_one.ensures.yes c.if-adds_one.true) c.requires.name
    (take_rest c.in_ok-both.both _ ∙ c.in_ok-both.ensures ∙ ap (λ (vs : List Text). vs ++ literal "1" ∷ []) (names_are ws ws refl)) c.update_variable.ensures

pub returns : goal.returns
returns c =
    let ws = c.args.words.now in
    ends_behind c.args.dialect c.args.page ws (take (length ws - 1) (drop 1 ws)) c.args.name.now c.args.frames.now c.update_variable-2.new.frames c.update_variable-2.result c.requires.fits
    (c.adds_one.ensures.no c.if-adds_one.false) c.requires.name (names_are ws ws refl) c.update_variable-2.ensures
