use Rattle.std.proofs.Common.{◌≡◌, ◌++◌, OnOk, sym, subst}
use Rattle.std.specs.Str.{chars}
use Rattle.std.specs.String.{string_bytes}
use Rattle.tcl_values.specs.Nested.{opening}
use Rattle.tcl_values.proofs.nested.push_open.Goals as goal

pub returns : goal.returns
unfolding chars
returns c = subst (λ b. OnOk c.push_text.result (chars (string_bytes c.push_text.new.text) ≡ chars (string_bytes c.args.text.now) ++ opening b)) (sym c.if-first.false) c.push_text.ensures.ok
