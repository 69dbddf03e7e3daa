use Rattle.std.proofs.Common.{ap, sym, ◌∙◌, subst}
use Rattle.std.specs.Str.{chars}
use Rattle.tcl_words.specs.declared.moves.At.TheVariants as place
use Rattle.tcl_words.specs.declared.moves.Move.{Move}
use Rattle.tcl_words.specs.Waiting.{Moves}
use Rattle.tcl_words.specs.Words.{kind_of}
use Rattle.tcl_words.proofs.GoesOnMoves.{quotes_open, plain_goes, opening_goes, positive}
use Rattle.tcl_words.proofs.moves.at_pieces.Goals.{then-quoted, else-quoted}
use Rattle.tcl_words.proofs.moves.at_pieces.Goals as goal

pub returns-in_default : goal.returns-in_default
returns-in_default c =
    let P : Move → Type 0 = λ m. Moves c.args.reader.levels c.args.nested (place.Pieces c.args.quoted) (chars c.args.text.now) m in
    elim c.if-quoted.branch [
      | then-quoted w ↦ subst P (sym w.result-is) (λ size s n. quotes_open (chars c.args.text.now) c.args.quoted c.in_default.ensures.parts w.if-quoted.true size s c.args.nested n)
      | else-quoted w ↦ subst P (sym w.result-is) tt
    ]

pub returns-in-Plain : goal.returns-in-Plain
returns-in-Plain c =
    plain_goes c.args.nested c.args.quoted (chars c.args.text.now) (chars c.in-Some.rest.now) c.in-Some.c c.in-Some.ensures.parts.in_chars
    (ap (λ m. kind_of m (chars c.args.text.now)) (sym c.mode_in.ensures) ∙ sym c.kind_of.ensures ∙ c.in-Plain.is) (sym c.is_settled.ensures ∙ c.if-is_settled.true) c.args.reader.levels

pub returns-in-Opening : goal.returns-in-Opening
returns-in-Opening c = (
  positive c.args.reader.levels c.if-reader-gt0.true,
  opening_goes c.args.nested c.args.quoted (chars c.args.text.now) (chars c.in-Some.rest.now) c.in-Some.c c.args.reader.levels c.in-Some.ensures.parts.in_chars
      (ap (λ m. kind_of m (chars c.args.text.now)) (sym c.mode_in.ensures) ∙ sym c.kind_of.ensures ∙ c.in-Opening.is) c.if-reader-gt0.true,
)
