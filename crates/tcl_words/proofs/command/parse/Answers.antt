use Rattle.std.proofs.Common.{rules, refl, sym, subst}
use Rattle.std.specs.Str.{chars}
use Rattle.tcl_words.specs.declared.word.Parsed.TheVariants as parsed
use Rattle.tcl_words.specs.First.{IsParsed}
use Rattle.tcl_words.proofs.Placed.{rest_at, after_first, first_is}
use Rattle.tcl_words.proofs.command.parse.Goals as goal

pub returns-in-Some : goal.returns-in-Some
returns-in-Some c =
    let bs = c.args.text.now in
    let cs = chars c.args.rest.now in
    let e = rw c.in-Some.is at c.in-Ok.ensures in
    let w = after_first c.args.reader.size c.args.reader.levels c.args.nested (chars bs) cs _ (chars c.in-Ok.after.now) c.requires.ends e in
    subst (IsParsed bs (parsed.Command c.in-Some.words c.place-end.result)) (sym (first_is c.args.reader.size c.args.reader.levels c.args.nested cs _ e))
    (refl, rest_at bs c.in-Ok.after.now c.place-end.result w c.utf8.text (search rules) c.place-end.ensures)

pub returns-in-None : goal.returns-in-None
returns-in-None c =
    let bs = c.args.text.now in
    let cs = chars c.args.rest.now in
    let e = rw c.in-None.is at c.in-Ok.ensures in
    let w = after_first c.args.reader.size c.args.reader.levels c.args.nested (chars bs) cs _ (chars c.in-Ok.after.now) c.requires.ends e in
    subst (IsParsed bs (parsed.End c.place-end.result)) (sym (first_is c.args.reader.size c.args.reader.levels c.args.nested cs _ e))
    (rest_at bs c.in-Ok.after.now c.place-end.result w c.utf8.text (search rules) c.place-end.ensures)

pub returns-in-Err-Bad : goal.returns-in-Err-Bad
returns-in-Err-Bad c =
    let cs = chars c.args.rest.now in
    let e = rw c.in-Err-Bad.field-0-is at c.in-Err-Bad.ensures in
    subst (IsParsed c.args.text.now (parsed.Bad c.in-Err-Bad.fault)) (sym (first_is c.args.reader.size c.args.reader.levels c.args.nested cs _ e)) refl
