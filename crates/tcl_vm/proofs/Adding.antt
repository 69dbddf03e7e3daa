-- Parts of a run add up.
use Rattle.std.proofs.Common.{◌≡◌, ℕ, ◌+◌, List, [], ◌∷◌, refl, sym, ap, ◌∙◌, subst, arith}
use Rattle.tcl_chars.specs.declared.numbers.Dialect.{Dialect}
use Rattle.tcl_pages.specs.Texts.{Text}
use Rattle.tcl_meaning.specs.Agreement.{Agrees}
use Rattle.tcl_meaning.specs.Beginnings.{more}
use Rattle.tcl_meaning.specs.Completions.{Completion, nothing, top}
use Rattle.tcl_meaning.specs.Effects.{Got, Gives, Broke, Exits, Untold, on_got}
use Rattle.tcl_meaning.specs.Run.{run_script}
use Rattle.tcl_meaning.specs.Script.{Run, most_depth}
use Rattle.tcl_meaning.specs.State.{State, with_units}
use Rattle.tcl_meaning.specs.Tasks.{Script}
use Rattle.tcl_vm.specs.Machines.{Begins, begun_at}
use Rattle.tcl_vm.specs.Parts.{given, total, PausesIn, HasDone}
use Rattle.tcl_vm.specs.Turns.{Config, Stands, Pauses, plus}
use Rattle.tcl_vm.proofs.Going.{begun_stands}

module _ (dialect : Dialect) where
  -- ---- what is left of the units

  -- a machine that stands without a unit, with k more
  plus_given : (k : ℕ) (m : Config) → m.state.units ≡ 0 → plus k m ≡ given k m
  plus_given k m e = let q : m.state.units + k ≡ k = omega arith in ap (λ n. given n m) q

  paused_on : (n k : ℕ) (c m : Config) (r : Got Completion) → Pauses dialect (given n c) m → Stands dialect (given (n + k) c) r → Stands dialect (given k m) r
  paused_on n k c m r p h = subst (λ x. Stands dialect x r) (plus_given k m p.spent) (p.later.stands k r h)

  pub parts_on : (parts : List ℕ) (last : ℕ) (c d : Config) (r : Got Completion) → PausesIn dialect parts c d → Stands dialect (given (total parts + last) c) r → Stands dialect (given last d) r
  parts_on [] last c d r e h =
      let q : 0 + last ≡ last = omega arith in
      subst (λ x. Stands dialect (given last x) r) (sym e) (subst (λ k. Stands dialect (given k c) r) q h)
  parts_on (n ∷ ns) last c d r p h =
      let q : n + total ns + last ≡ n + (total ns + last) = omega arith in
      parts_on ns last p.0 d r p.2 (paused_on n (total ns + last) c p.0 r p.1 (subst (λ k. Stands dialect (given k c) r) q h))

  -- ---- a whole script

  agrees_top : (got real : Got Completion) → Agrees got real → Agrees (on_got got (λ c after. Gives (top c) after)) (on_got real (λ c after. Gives (top c) after))
  agrees_top (Gives c s) real e = ap (λ g. on_got g (λ c after. Gives (top c) after)) e
  agrees_top (Broke x) real e = ap (λ g. on_got g (λ c after. Gives (top c) after)) e
  agrees_top (Exits n x) real e = ap (λ g. on_got g (λ c after. Gives (top c) after)) e
  agrees_top (Untold c) (Gives d s) e = e
  agrees_top (Untold c) (Broke x) e = e
  agrees_top (Untold c) (Exits n x) e = e
  agrees_top (Untold c) (Untold d) e = e

  pub parts_add_up : (text : Text) (c d : Config) (parts : List ℕ) (last : ℕ) (real : Got Completion) → Begins dialect text 1 c → PausesIn dialect parts c d → HasDone dialect (given last d) real
      → Agrees (run_script dialect text (with_units (total parts + last) c.state)) (on_got real (λ e t. Gives (top e) t))
  parts_add_up text c d parts last real b p k =
      let n = total parts + last in
      let r = Run dialect (Script 1 nothing text) (with_units n c.state) in
      agrees_top r real (k r (parts_on parts last c d r p (subst (λ x. Stands dialect x r) (sym (ap (given n) b.at_start)) (begun_stands dialect b.code text 1 (with_units n c.state) b.means (omega arith)))))
