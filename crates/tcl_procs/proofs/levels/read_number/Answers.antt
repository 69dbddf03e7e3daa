use Rattle.std.proofs.Common.{inl, inr}
use Rattle.std.specs.Str.{chars}
use Rattle.tcl_procs.proofs.LevelLemmas.{number_read, number_high, no_number}
use Rattle.tcl_procs.proofs.levels.read_number.Goals as goal

pub returns-in-Number : goal.returns-in-Number
returns-in-Number c = number_read (chars c.args.text.now) c.read_decimal.result c.in-Number.number c.read_decimal.ensures c.in-Number.is

pub returns-in-TooLarge : goal.returns-in-TooLarge
returns-in-TooLarge c = elim c.in-TooLarge.is [
  | inl e ↦ number_high (chars c.args.text.now) c.read_decimal.result c.read_decimal.ensures e
  | inr e ↦ no_number (chars c.args.text.now) c.read_decimal.result c.read_decimal.ensures e
]
