-- How a proof tells commands apart.
use Rattle.std.specs.Prelude.{◌≡◌, List, Option, ◌⊎◌, refl}
use Rattle.std.proofs.Common.{inl, inr}
use Rattle.std.specs.Coded.{Coded, code_by, coded_ℕ, coded_list, coded×, coded_option, coded⊎}
use Rattle.tcl_names.specs.Named.{named_code}
use Rattle.tcl_pages.specs.Texts.{Text}
use Rattle.tcl_table.specs.Noted.{Noted}
use Rattle.tcl_meaning.specs.State.{Formal, Procedure, Command, Commands, built_in, procedure}
use Rattle.tcl_meaning.specs.declared.page.BuiltIn.{BuiltIn}
use Rattle.tcl_meaning.specs.contracts.page.BuiltIn as built

abbrev pub text_code : Coded Text
text_code = coded_list coded_ℕ

abbrev formal_code : Coded Formal
formal_code = code_by (Text × Option Text) (coded× text_code (coded_option text_code)) (λ f. (f.name, f.default)) (λ p. record { name = p.0; default = p.1 }) (λ _. refl)

abbrev procedure_code : Coded Procedure
procedure_code = code_by (List Formal × Text) (coded× (coded_list formal_code) text_code) (λ p. (p.formals, p.body)) (λ p. record { formals = p.0; body = p.1 }) (λ _. refl)

abbrev to_sum : Command → BuiltIn ⊎ Procedure
to_sum (built_in b) = inl b
to_sum (procedure p) = inr p

abbrev of_sum : BuiltIn ⊎ Procedure → Command
of_sum (inl b) = built_in b
of_sum (inr p) = procedure p

abbrev again : (c : Command) → of_sum (to_sum c) ≡ c
again (built_in b) = refl
again (procedure p) = refl

abbrev pub command_code : Coded Command
command_code = code_by (BuiltIn ⊎ Procedure) (coded⊎ built.the_row.coded procedure_code) to_sum of_sum again

abbrev pub commands_code : Coded Commands
commands_code = named_code command_code

abbrev pub noted_code : Coded Noted
noted_code = coded_list (coded× text_code (coded_option command_code))
