use Rattle.std.proofs.Common.{◌++◌, sym, ap, ◌∙◌, refl}
use Rattle.std.proofs.lemmas.Str.{chars-nil}
use Rattle.std.specs.Str.{chars}
use Rattle.tcl_words.specs.declared.moves.At.TheVariants as place
use Rattle.tcl_words.specs.Waiting.{in_then}
use Rattle.tcl_words.proofs.GoesOnRuns.{first_reads}
use Rattle.tcl_words.proofs.waiting.at_beginning.Goals as goal

pub returns : goal.returns
returns c = record {
  reads = λ size z.
      first_reads size z ∙ ap (λ qs. in_then size qs place.Commands z) (sym c.new.ensures.items)
      ∙ ap (λ t. in_then size c.new.result.items place.Commands (t ++ z)) (sym (ap chars c.new-2.ensures.bytes ∙ chars-nil));
  hides = λ z. refl;
}
