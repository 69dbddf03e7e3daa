use Rattle.std.proofs.lemmas.Str.{IsCharBoundary-start}
use Rattle.tcl_places.proofs.commands.operand_at.Goals as goal

pub parse_operand-requires-clause-boundary : goal.parse_operand-requires-clause-boundary
parse_operand-requires-clause-boundary c = IsCharBoundary-start c.args.text.now c.utf8.text
