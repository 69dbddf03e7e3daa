use Rattle.std.proofs.Common.{◌≡◌, false, length, ap, subst, sym}
use Rattle.std.specs.Prelude.{IfOk}
use Rattle.std.specs.Str.{chars}
use Rattle.std.proofs.lemmas.Str.{encodes-chars}
use Rattle.tcl_chars.specs.Place.{bytes}
use Rattle.tcl_words.specs.First.{IsParsed, first}
use Rattle.tcl_words.proofs.command.parse_first.Goals as goal

pub returns : goal.returns
returns c =
    let e : bytes (chars c.args.text.now) ≡ length c.args.text.now = ap length (encodes-chars c.args.text.now c.utf8.text) in
    subst (λ n. IfOk c.parse.result (λ p. IsParsed c.args.text.now p (first n c.args.levels false (chars c.args.text.now)))) (sym e) c.parse.ensures
