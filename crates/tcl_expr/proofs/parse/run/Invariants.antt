use Rattle.std.proofs.Common.{◌≡◌, length}
use denote.Text.{Utf8}
use denote.Shadow.{shadow}
use Rattle.std.specs.Str.{chars}
use Rattle.tcl_chars.specs.Place.{EndsWith}
use Rattle.tcl_expr.specs.Gives.{state_view}
use Rattle.tcl_expr.specs.Machine.{run, expression_of}
use Rattle.tcl_expr.specs.View.{stack_of}
use Rattle.tcl_expr.proofs.Lexing.{left_tokens}
use Rattle.tcl_expr.proofs.Sound.{IsState}
use Rattle.tcl_expr.proofs.parse.run.Given as goal

abbrev pub invariant-tokens : goal.invariant-tokens
invariant-tokens l = let st = state_view l.state (stack_of l.stack.frames.items) in record {
  text : shadow (Utf8 l.left);
  ends : EndsWith (chars l.text) (chars l.left);
  state : IsState st;
  same : run st (left_tokens l.fn.dialect (length l.text) st (chars l.left)) ≡ expression_of l.fn.dialect (chars l.text);
}

abbrev pub decreases-tokens : goal.decreases-tokens
decreases-tokens l = length (chars l.left)
