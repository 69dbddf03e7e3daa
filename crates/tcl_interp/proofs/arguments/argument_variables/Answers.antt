use Rattle.std.proofs.Common.{◌≡◌, ◌<◌, IfOk, List, [], ◌∷◌, length, map as each, refl, subst, arith}
use Rattle.std.specs.Str.{chars}
use Rattle.tcl_meaning.specs.Run.{args_put, argument_variables}
use Rattle.tcl_pages.specs.Texts.{Text}
use Rattle.tcl_interp.proofs.arguments.argument_variables.Goals as goal

no_args : {A : Type 0} (f : A → Text) (xs : List A) → length xs < 1 → args_put [] [] ≡ argument_variables (each f xs)
no_args f [] h = refl
no_args f (x ∷ xs) h = absurd (omega (arith, h))

pub returns-in-empty : goal.returns-in-empty
unfolding chars
returns-in-empty c = subst (λ variables. IfOk c.args_put.result (λ v. v ≡ variables)) (no_args (λ arg. chars arg.now) c.args.args.now c.in-empty.len_below) c.args_put.ensures
