-- A run of a file, and lines behind it.
use Rattle.std.proofs.Common.{◌≡◌, ℕ, Bool, true, List, Option, sym, subst}
use Rattle.tcl_chars.specs.declared.numbers.Dialect.TheVariants.{Tcl86}
use Rattle.tcl_shell.specs.Lines.{SaidIf, Told}
use Rattle.tcl_shell.specs.Program.{Devices, RunsFile}
use Rattle.tcl_shell.specs.Words.{most_budget}
use Rattle.tcl_where.specs.Where.{RunsBehind, RunsWords}

module _ {R W E : Type 0} (words : List (List ℕ)) (file : Option (List ℕ)) (status : ℕ) (old : Devices R W E) where
  -- a file is run, and then lines go to standard error, or none
  pub runs_behind : (is_file : Bool) → is_file ≡ true → (between new : Devices R W E) → new.input ≡ between.input → new.out ≡ between.out
      → RunsFile Tcl86 most_budget words file status old (record { input = between.input; out = between.out; err = between.err })
      → (lines : Option (List ℕ)) → SaidIf lines between.err new.err → RunsWords is_file words file status old new
  runs_behind is_file is between new input out runs lines says =
      let P : Bool → Type 0 = λ b. RunsWords b words file status old new in
      let Q : Told R → Told W → Type 0 = λ i o. RunsFile Tcl86 most_budget words file status old (record { input = i; out = o; err = between.err }) in
      subst P (sym is) (record {
        before = between.err;
        lines = lines;
        runs = subst (λ o. Q new.input o) (sym out) (subst (λ i. Q i between.out) (sym input) runs);
        says = says;
      })
