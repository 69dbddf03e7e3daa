use Rattle.std.proofs.Common.{sym, subst, ◌∙◌}
use Rattle.std.specs.Str.{chars}
use Rattle.tcl_frames.specs.Standing.{store_of}
use Rattle.tcl_procs.proofs.DefinitionLemmas.{rename_deletes, rename_moves}
use Rattle.tcl_steps.specs.Ends.{DoesIn}
use Rattle.tcl_procs.proofs.definitions.rename_command.Goals as goal

pub returns-then-is_empty-clause-does : goal.returns-then-is_empty-clause-does
returns-then-is_empty-clause-does c = λ f.
    subst (λ page. DoesIn page (store_of c.args.table.now f) c.delete_command.result (store_of c.delete_command.new.table f))
    (sym (rename_deletes (chars c.args.old.now) (chars c.args.new.now) (sym c.is_empty.ensures ∙ c.if-is_empty.true))) (c.delete_command.ensures.does f)

pub returns-clause-does : goal.returns-clause-does
returns-clause-does c = λ f.
    subst (λ page. DoesIn page (store_of c.args.table.now f) c.move_command.result (store_of c.move_command.new.table f))
    (sym (rename_moves (chars c.args.old.now) (chars c.args.new.now) (sym c.is_empty.ensures ∙ c.if-is_empty.false))) (c.move_command.ensures.does f)
