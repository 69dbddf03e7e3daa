use Rattle.std.proofs.Common.{◌≡◌, ℕ, ◌<◌, ◌≤◌, ◌++◌, List, [], ◌∷◌, length, map, Option, Some, refl, sym, ap, ◌∙◌, subst, arith, length-append}
use Rattle.std.specs.Borrow.{Bor}
use Rattle.std.specs.Str.{chars}
use Rattle.std.proofs.lemmas.List.{map-append}
use Rattle.tcl_meaning.specs.Tasks.{Others}
use Rattle.tcl_pages.specs.Texts.{Text}
use Rattle.tcl_compile.specs.Forms.{clause_of}
use Rattle.tcl_compile.specs.declared.inlining.Clause.{Clause}
use Rattle.tcl_compile.proofs.Clauses.{Behind, others, read_end, read_else, read_elseif}
use Rattle.tcl_compile.proofs.inlining.if_by.Goals as goal

-- a clause more
one_more : (new old : List Clause) (x : Clause) → new ≡ old ++ x ∷ [] → map clause_of new ≡ map clause_of old ++ clause_of x ∷ []
one_more new old x e = ap (map clause_of) e ∙ map-append clause_of old (x ∷ [])

same_clauses : {r : Option Others} {cs ds : List (Text × Text)} {o : Option Text} → r ≡ Some (others cs o) → ds ≡ cs → r ≡ Some (others ds o)
same_clauses {r} {cs} {ds} {o} h e = h ∙ ap (λ l. Some (others l o)) (sym e)

few : (new old : List Clause) (x : Clause) (n m : ℕ) → new ≡ old ++ x ∷ [] → n ≡ m → m ≡ length old → n < 64 → length new ≤ 64
few new old x n m e f g lt = omega (arith, ap length e, length-append old (x ∷ []), f, g)

pub returns-in-Nothing : goal.returns-in-Nothing
returns-in-Nothing c =
    let items = one_more c.push.new.self.items c.clauses.clauses.items _ c.in_ok-push.ensures.items in (
      refl,
      (
        same_clauses (read_end (λ (t : Bor (List ℕ)). chars t.now) (map (λ t. chars t.now) c.args.texts.now) (map clause_of c.clauses.clauses.items) _ c.clauses.rest.now (c.has_clause.ensures c.if-has_clause.true) c.in-Nothing.ensures c.clauses.invariant) items,
        few c.push.new.self.items c.clauses.clauses.items _ c.len.result _ c.in_ok-push.ensures.items c.len.ensures c.clauses.clauses.ok.0 c.clauses-test.true,
      ),
    )

pub returns-in-Else : goal.returns-in-Else
returns-in-Else c =
    let items = one_more c.push.new.self.items c.clauses.clauses.items _ c.in_ok-push.ensures.items in (
      refl,
      (
        same_clauses (read_else (λ (t : Bor (List ℕ)). chars t.now) (map (λ t. chars t.now) c.args.texts.now) (map clause_of c.clauses.clauses.items) _ c.clauses.rest.now (c.has_clause.ensures c.if-has_clause.true) c.in-Else.ensures c.clauses.invariant) items,
        few c.push.new.self.items c.clauses.clauses.items _ c.len.result _ c.in_ok-push.ensures.items c.len.ensures c.clauses.clauses.ok.0 c.clauses-test.true,
      ),
    )

pub clauses-preserved : goal.clauses-preserved
clauses-preserved c =
    let items = one_more c.push.new.self.items c.clauses.clauses.items _ c.in_ok-push.ensures.items in
    subst (Behind (map (λ t. chars t.now) c.args.texts.now) _) (sym items)
    (read_elseif (λ (t : Bor (List ℕ)). chars t.now) (map (λ t. chars t.now) c.args.texts.now) (map clause_of c.clauses.clauses.items) _ c.clauses.rest.now (c.has_clause.ensures c.if-has_clause.true) c.in-Elseif.ensures c.clauses.invariant)
