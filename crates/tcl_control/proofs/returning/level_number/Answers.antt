use Rattle.std.proofs.Common.{subst}
use Rattle.std.proofs.lemmas.Str.{chars-nil}
use Rattle.tcl_chars.specs.Answers.{Answers}
use Rattle.tcl_chars.specs.Messages.{about, whole_or}
use Rattle.tcl_chars.specs.Texts.{literal}
use Rattle.tcl_chars.specs.Whole.{whole_of}
use Rattle.tcl_control.proofs.returning.level_number.Goals as goal

pub returns-clause-number : goal.returns-clause-number
returns-clause-number c =
    subst (λ z. Answers (λ n. n) c.whole_or.result (whole_or (about (literal "bad -level value: expected non-negative integer but got") c.args.word.now z) (whole_of c.args.dialect c.args.word.now))) chars-nil c.whole_or.ensures.number
