use Rattle.std.proofs.Common.{ap, ◌∙◌}
use Rattle.tcl_meaning.specs.Pages.{first_commands, with_pages, pages, with_ensembles, ensembles}
use Rattle.tcl_table.proofs.built_ins.first_commands.Goals as goal

-- the table is the definition's
pub returns : goal.returns
unfolding first_commands
returns c = c.in_ok-add.ensures ∙ ap (λ m. with_pages pages (with_ensembles ensembles m)) c.new-commands.ensures
