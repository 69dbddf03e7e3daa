-- The instructions of inlined commands, emitted one after another.
use Rattle.std.proofs.Common.{◌≡◌, ℕ, suc, ◌+◌, ◌-◌, ◌<◌, ◌==◌, Bool, true, false, List, [], ◌∷◌, ◌++◌, length, get_or, drop, take, map, Option, Some, None, refl, sym, ap, ◌∙◌, subst, arith, append_assoc, length-append, length-drop}
use Rattle.std.proofs.lemmas.Bool.{eqb-true}
use Rattle.std.specs.Borrow.{Bor}
use Rattle.std.specs.Prelude.{Vec, option_map}
use Rattle.std.specs.Str.{chars}
use Rattle.std.specs.declared.alloc.Global.{Global}
use Rattle.tcl_chars.specs.Texts.{literal}
use Rattle.tcl_chars.specs.declared.numbers.Dialect.{Dialect}
use Rattle.tcl_pages.specs.Texts.{Text}
use Rattle.tcl_meaning.specs.Asking.{ask}
use Rattle.tcl_meaning.specs.Control.{next_clause}
use Rattle.tcl_meaning.specs.Effects.{Here}
use Rattle.tcl_meaning.specs.Tasks.{Run, Nothing, IfTest}
use Rattle.tcl_code.specs.Instructions.{Push, Enter, Become, Bump, Body, Skip, SkipWhen, Turn, Break, Continue, Answer}
use Rattle.tcl_code.specs.declared.inlined.Inlined.TheVariants as inlined
use Rattle.tcl_code.specs.Turns.{turns_of}
use Rattle.tcl_compile.specs.Emitted.{ScriptCode}
use Rattle.tcl_compile.specs.Forms.{IsForm, command_of, page_does, clause_of, TurnsBack, PageCode, BodyCode, ClausesCode, body_end, bodied, BodiedCode, TurnCode, LoopMade, ForCode}
use Rattle.tcl_compile.specs.Fragments.{Grown}
use Rattle.tcl_compile.specs.Inlining.{Makes}
use Rattle.tcl_compile.specs.Trees.{ExpressionCode}
use Rattle.tcl_compile.specs.declared.inlining.Clause.{Clause}
use Rattle.tcl_compile.specs.declared.inlining.ForTexts.{ForTexts}
use Rattle.tcl_compile.specs.declared.inlining.Form.{Form}
use Rattle.tcl_compile.specs.declared.inlining.Form.TheVariants as form
use Rattle.tcl_compile.proofs.Emits.{Code, ext, join}
use Rattle.tcl_compile.proofs.Forks.{Behind, behind, more_behind, LedHere, forked}
use Rattle.tcl_compile.proofs.Inlined.{expr_makes, if_makes, incr_makes, break_makes, continue_makes}
use Rattle.tcl_compile.proofs.Clauses.{rest_is}
use Rattle.tcl_compile.proofs.Conditions.{if_owes, body_code, body_makes, clause_code, clause_makes, none_makes}
use Rattle.tcl_compile.proofs.ForLoop.{turn_makes, while_makes, for_makes}
use Rattle.tcl_compile.proofs.Looping.{loop_code}
use Rattle.tcl_compile.proofs.Turns.{behind_one, in_back, turn_counts}

-- ---- the first clause, and those behind it

abbrev pub behind_first : List Clause → List Clause
behind_first xs = take (length xs - 1) (drop 1 xs)

pub are_none : {A : Type 0} (xs : List A) (b : Bool) → b ≡ (length xs == 0) → b ≡ true → length xs ≡ 0
are_none xs b e h = eqb-true (length xs) 0 (sym e ∙ h)

pub are_some : (xs : List Clause) (b : Bool) → b ≡ (length xs == 0) → b ≡ false → 0 < length xs
are_some [] b e h = absurd (no (sym h ∙ e))
  where
    no : false ≡ true → ⊥
    no q = cc
are_some (x ∷ xs) b e h = omega arith

pub first_split : (xs : List Clause) (d : Clause) → 0 < length xs → map clause_of xs ≡ clause_of (get_or xs 0 d) ∷ map clause_of (behind_first xs)
first_split [] d lt = absurd (omega arith)
first_split (x ∷ xs) d lt = ap (λ l. clause_of x ∷ map clause_of l) (sym (rest_is 1 (x ∷ xs)))

pub behind_less : (xs : List Clause) → 0 < length xs → length (behind_first xs) < length xs
behind_less xs lt = omega (arith, ap length (rest_is 1 xs), length-drop 1 xs)

-- a loop has its turn back
loop_turns : (c t : Code) → 0 < turns_of (loop_code c t)
loop_turns c t =
    let n = length c + length t + 2 in
    let last = Turn n ∷ Push [] ∷ Answer ∷ [] in
    let second = Skip (length t + 2) ∷ (t ++ SkipWhen false 1 ∷ last) in
    omega (
      arith,
      turn_counts n (Push [] ∷ Answer ∷ []),
      behind_one (SkipWhen false 1) last,
      in_back t (SkipWhen false 1 ∷ last),
      behind_one (Skip (length t + 2)) (t ++ SkipWhen false 1 ∷ last),
      in_back c second,
      behind_one (Skip (length c + 1)) (c ++ second),
    )

module _ (dialect : Dialect) where
  -- the code of a form where its page's is known
  of_form : (f g : Form) (ts us : List Text) (c : Code) → f ≡ g → IsForm f ts → (IsForm g ts → Makes dialect c (page_does dialect (command_of g) ts)) → Makes dialect c (page_does dialect (command_of f) ts)
  of_form f g ts us c e is h = subst (λ (x : Form). IsForm x ts → Makes dialect c (page_does dialect (command_of x) ts)) (sym e) h is

  -- the code of a form that is no `while`
  no_turn : (f g : Form) (c : Code) → f ≡ g → (command_of g ≡ inlined.While → ⊥) → TurnsBack f c
  no_turn f g c e h q = absurd (h (sym (ap command_of e) ∙ q))

  pub grown_break : (f : Form) (old new : Code) → f ≡ form.Break → new ≡ old ++ Break ∷ [] → Grown (PageCode dialect f) old new
  grown_break f old new e h = (Break ∷ [], h, (no_turn f form.Break (Break ∷ []) e (λ q. cc), λ ts is. of_form f form.Break ts [] (Break ∷ []) e is (λ k. subst (λ us. Makes dialect (Break ∷ []) (page_does dialect inlined.Break us)) (sym k) (break_makes dialect))))

  pub grown_continue : (f : Form) (old new : Code) → f ≡ form.Continue → new ≡ old ++ Continue ∷ [] → Grown (PageCode dialect f) old new
  grown_continue f old new e h = (Continue ∷ [], h, (no_turn f form.Continue (Continue ∷ []) e (λ q. cc), λ ts is. of_form f form.Continue ts [] (Continue ∷ []) e is (λ k. subst (λ us. Makes dialect (Continue ∷ []) (page_does dialect inlined.Continue us)) (sym k) (continue_makes dialect))))

  pub grown_increment : (f : Form) (name : Bor (List ℕ)) (m0 m1 m2 : Code) → f ≡ form.Increment name → m1 ≡ m0 ++ Push (literal "1") ∷ [] → m2 ≡ m1 ++ Bump (chars name.now) ∷ [] → Grown (PageCode dialect f) m0 m2
  grown_increment f name m0 m1 m2 e h k =
      let c = Push (literal "1") ∷ Bump (chars name.now) ∷ [] in (
        c,
        (join (ext {m0 = m0} {c = Push (literal "1") ∷ []} h) (ext {m0 = m1} {c = Bump (chars name.now) ∷ []} k)).is,
        (no_turn f (form.Increment name) c e (λ q. cc), λ ts is. of_form f (form.Increment name) ts [] c e is (λ j. subst (λ us. Makes dialect c (page_does dialect inlined.Incr us)) (sym j) (incr_makes dialect (chars name.now)))),
      )

  pub grown_expr : (f : Form) (t : Bor (List ℕ)) (m0 m1 m2 : Code) → f ≡ form.Expr t → Grown (ExpressionCode dialect (chars t.now)) m0 m1 → m2 ≡ m1 ++ Answer ∷ [] → Grown (PageCode dialect f) m0 m2
  grown_expr f t m0 m1 m2 e g k =
      let c = g.0 ++ Answer ∷ [] in (
        c,
        (join (ext {m0 = m0} {c = g.0} g.1) (ext {m0 = m1} {c = Answer ∷ []} k)).is,
        (no_turn f (form.Expr t) c e (λ q. cc), λ ts is. of_form f (form.Expr t) ts [] c e is (λ j. subst (λ us. Makes dialect c (page_does dialect inlined.Expr us)) (sym j) (expr_makes dialect (chars t.now) g.0 g.2))),
      )

  pub grown_if : (f : Form) (cs : Vec Clause Global) (o : Option (Bor (List ℕ))) (m0 m1 : Code) → f ≡ form.If cs o → Grown (ClausesCode dialect (map clause_of cs.items) (option_map (λ t. chars t.now) o)) m0 m1 → Grown (PageCode dialect f) m0 m1
  grown_if f cs o m0 m1 e g = (g.0, g.1, (no_turn f (form.If cs o) g.0 e (λ q. cc), λ ts is. of_form f (form.If cs o) ts [] g.0 e is (λ j. if_makes dialect ts (map clause_of cs.items) (option_map (λ t. chars t.now) o) g.0 j.0 g.2)))

  pub grown_while : (f : Form) (test body : Bor (List ℕ)) (m0 m1 : Code) → f ≡ form.While test body → Grown (LoopMade dialect None (chars test.now) (chars body.now)) m0 m1 → Grown (PageCode dialect f) m0 m1
  grown_while f test body m0 m1 e g = (g.0, g.1, (λ q. g.2.0, λ ts is. of_form f (form.While test body) ts [] g.0 e is (λ j. subst (λ us. Makes dialect g.0 (page_does dialect inlined.While us)) (sym j) (while_makes dialect (chars test.now) (chars body.now) g.0 g.2.1))))

  -- ---- bodies and clauses

  pub grown_body : (m0 m1 m2 m3 : Code) (t : Text) → m1 ≡ m0 ++ Enter ∷ [] → Grown (ScriptCode dialect t) m1 m2 → m3 ≡ m2 ++ Become ∷ [] → Grown (BodyCode dialect t) m0 m3
  grown_body m0 m1 m2 m3 t e g h = (
    body_code g.0,
    (join (ext {m0 = m0} {c = Enter ∷ []} e) (join (ext {m0 = m1} {c = g.0} g.1) (ext {m0 = m2} {c = Become ∷ []} h))).is,
    λ n. body_makes dialect n t g.0 g.2,
  )

  pub grown_none : (old new : Code) (xs : List Clause) (o : Option (Bor (List ℕ))) → length xs ≡ 0 → o ≡ None → new ≡ old ++ Push [] ∷ Answer ∷ [] → Grown (ClausesCode dialect (map clause_of xs) (option_map (λ t. chars t.now) o)) old new
  grown_none old new [] o e f h = (Push [] ∷ Answer ∷ [], h, subst (λ (p : Option (Bor (List ℕ))). ClausesCode dialect [] (option_map (λ t. chars t.now) p) (Push [] ∷ Answer ∷ [])) (sym f) (none_makes dialect 1))
  grown_none old new (x ∷ xs) o e f h = absurd cc

  pub grown_last : (old new : Code) (xs : List Clause) (o : Option (Bor (List ℕ))) (t : Bor (List ℕ)) → length xs ≡ 0 → o ≡ Some t → Grown (BodyCode dialect (chars t.now)) old new → Grown (ClausesCode dialect (map clause_of xs) (option_map (λ t. chars t.now) o)) old new
  grown_last old new [] o t e f g = (g.0, g.1, subst (λ (p : Option (Bor (List ℕ))). ClausesCode dialect [] (option_map (λ t. chars t.now) p) g.0) (sym f) (g.2 0))
  grown_last old new (x ∷ xs) o t e f g = absurd cc

  pub grown_clause : (m0 m1 m2 m3 m4 m5 m6 m7 : Code) (test body : Text) (cs : List (Text × Text)) (o : Option Text) → Grown (ExpressionCode dialect test) m0 m1 → m2 ≡ m1 ++ SkipWhen false 0 ∷ [] → Grown (BodyCode dialect body) m2 m3 → m4 ≡ m3 ++ Skip 0 ∷ []
      → LedHere (length m1) m4 m5 → Grown (ClausesCode dialect cs o) m5 m6 → LedHere (length m3) m6 m7 → Grown (ClausesCode dialect ((test, body) ∷ cs) o) m0 m7
  grown_clause m0 m1 m2 m3 m4 m5 m6 m7 test body cs o g h x k l y n = (
    clause_code g.0 x.0 y.0,
    (join (ext {m0 = m0} {c = g.0} g.1) (ext {m0 = m1} {m1 = m7} (forked (SkipWhen false 0) x.0 y.0 m1 m2 m3 m4 m5 m6 m7 h x.1 k l y.1 n))).is,
    clause_makes dialect (suc (length cs)) test (IfTest body (record { clauses = cs; otherwise = o })) (ask (Run Here body Nothing)) (next_clause cs o) g.0 x.0 y.0 (λ c. if_owes dialect body cs o c) g.2 (x.2 (length cs)) y.2,
  )

  -- ---- loops

  pub grown_looped : (m0 m1 m2 m3 m4 : Code) (passes gathers : Bool) (t : Text) → m1 ≡ m0 ++ Body passes 0 ∷ [] → Grown (ScriptCode dialect t) m1 m2 → m3 ≡ m2 ++ body_end gathers ∷ [] → LedHere (length m0) m3 m4 → Grown (BodiedCode dialect passes gathers t) m0 m4
  grown_looped m0 m1 m2 m3 m4 passes gathers t e x h l =
      let b = x.0 in
      let whole : Behind (Body passes 0) m0 (b ++ body_end gathers ∷ []) m3 = more_behind (body_end gathers ∷ []) (behind b {i = Body passes 0} {m0 = m0} e x.1) h in
      let long : length (b ++ body_end gathers ∷ []) ≡ length b + 1 = omega (arith, length-append b (body_end gathers ∷ [])) in
      (bodied passes gathers b, l m0 (b ++ body_end gathers ∷ []) (Body passes 0) whole.is refl ∙ ap (λ k. m0 ++ Body passes k ∷ (b ++ body_end gathers ∷ [])) long, (b, refl, x.2))

  pub grown_turns : (m0 m1 m2 m3 m4 : Code) (next : Option (Bor (List ℕ))) (t : Bor (List ℕ)) (body : Text) → next ≡ Some t → Grown (BodiedCode dialect false false body) m0 m1 → m2 ≡ m1 ++ Skip 0 ∷ [] → Grown (BodiedCode dialect true false (chars t.now)) m2 m3 → LedHere (length m1) m3 m4
      → Grown (TurnCode dialect (option_map (λ t. chars t.now) next) body) m0 m4
  grown_turns m0 m1 m2 m3 m4 next t body e g h x l =
      let b = g.0 in
      let n = x.0 in
      let past : Behind (Skip 0) m1 n m3 = behind n {i = Skip 0} {m0 = m1} h x.1 in
      let last : m4 ≡ m1 ++ Skip (length n) ∷ n = l m1 n (Skip 0) past.is refl in (
        b ++ Skip (length n) ∷ n,
        last ∙ ap (λ k. k ++ Skip (length n) ∷ n) g.1 ∙ append_assoc m0 b (Skip (length n) ∷ n),
        subst (λ (o : Option (Bor (List ℕ))). TurnCode dialect (option_map (λ t. chars t.now) o) body (b ++ Skip (length n) ∷ n)) (sym e) (b, n, refl, g.2, x.2),
      )

  pub grown_loop : (m0 m1 m2 m3 m4 m5 m6 m7 m8 m9 : Code) (n : ℕ) (next : Option Text) (test body : Text) → m1 ≡ m0 ++ Skip 0 ∷ [] → Grown (TurnCode dialect next body) m1 m2 → m3 ≡ m2 ++ Skip 0 ∷ [] → LedHere (length m0) m3 m4 → Grown (ExpressionCode dialect test) m4 m5 → m6 ≡ m5 ++ SkipWhen false 1 ∷ []
      → m7 ≡ m6 ++ Turn n ∷ [] → n ≡ length m6 - length m1 → LedHere (length m2) m7 m8 → m9 ≡ m8 ++ Push [] ∷ Answer ∷ [] → Grown (LoopMade dialect next test body) m0 m9
  grown_loop m0 m1 m2 m3 m4 m5 m6 m7 m8 m9 n next test body e1 x e3 l4 y e6 e7 en l8 e9 =
      let c = x.0 in
      let t = y.0 in
      let first : Behind (Skip 0) m0 (c ++ Skip 0 ∷ []) m3 = more_behind (Skip 0 ∷ []) (behind c {i = Skip 0} {m0 = m0} e1 x.1) e3 in
      let count : length (c ++ Skip 0 ∷ []) ≡ length c + 1 = omega (arith, length-append c (Skip 0 ∷ [])) in
      let m4_is : m4 ≡ m0 ++ Skip (length c + 1) ∷ (c ++ Skip 0 ∷ []) = l4 m0 (c ++ Skip 0 ∷ []) (Skip 0) first.is refl ∙ ap (λ k. m0 ++ Skip k ∷ (c ++ Skip 0 ∷ [])) count in
      let front = m0 ++ Skip (length c + 1) ∷ c in
      let m4_front : m4 ≡ front ++ Skip 0 ∷ [] = m4_is ∙ sym (append_assoc m0 (Skip (length c + 1) ∷ c) (Skip 0 ∷ [])) in
      let tail = SkipWhen false 1 ∷ Turn n ∷ [] in
      let ends : m7 ≡ m5 ++ tail = (join (ext {m0 = m5} {c = SkipWhen false 1 ∷ []} e6) (ext {m0 = m6} {c = Turn n ∷ []} e7)).is in
      let second : Behind (Skip 0) front (t ++ tail) m7 = more_behind tail (behind t {i = Skip 0} {m0 = front} m4_front y.1) ends in
      let past : length (t ++ tail) ≡ length t + 2 = omega (arith, length-append t tail) in
      let size0 : length front ≡ length m0 + (length c + 1) = omega (arith, length-append m0 (Skip (length c + 1) ∷ c)) in
      let size1 : length m1 ≡ length m0 + 1 = omega (arith, ap length e1, length-append m0 (Skip 0 ∷ [])) in
      let size2 : length m2 ≡ length front = omega (arith, size0, size1, ap length x.1, length-append m1 c) in
      let size6 : length m6 ≡ length front + 1 + length t + 1 = omega (arith, ap length e6, length-append m5 (SkipWhen false 1 ∷ []), ap length y.1, length-append m4 t, ap length m4_front, length-append front (Skip 0 ∷ [])) in
      let turn : n ≡ length c + length t + 2 = omega (arith, en, size6, size0, size1) in
      let m8_is : m8 ≡ front ++ Skip (length t + 2) ∷ (t ++ tail) = l8 front (t ++ tail) (Skip 0) second.is size2 ∙ ap (λ k. front ++ Skip k ∷ (t ++ tail)) past in
      let whole : Behind (Skip (length t + 2)) front ((t ++ tail) ++ Push [] ∷ Answer ∷ []) m9 = more_behind (Push [] ∷ Answer ∷ []) (record { is = m8_is }) e9 in
      let rest : ℕ → Code = λ k. Skip (length t + 2) ∷ (t ++ SkipWhen false 1 ∷ Turn k ∷ Push [] ∷ Answer ∷ []) in
      let code : m9 ≡ m0 ++ loop_code c t = whole.is ∙ ap (λ z. front ++ Skip (length t + 2) ∷ z) (append_assoc t tail (Push [] ∷ Answer ∷ [])) ∙ append_assoc m0 (Skip (length c + 1) ∷ c) (rest n) ∙ ap (λ k. m0 ++ Skip (length c + 1) ∷ (c ++ rest k)) turn in
      (loop_code c t, code, (loop_turns c t, turn_makes dialect next test body t c y.2 x.2))

  pub grown_whole_for : (m0 m1 m2 : Code) (w : ForTexts) → Grown (BodyCode dialect (chars w.start.now)) m0 m1 → Grown (LoopMade dialect (Some (chars w.next.now)) (chars w.test.now) (chars w.body.now)) m1 m2 → Grown (ForCode dialect w) m0 m2
  grown_whole_for m0 m1 m2 w g h = (g.0 ++ h.0, (join (ext {m0 = m0} {c = g.0} g.1) (ext {m0 = m1} {c = h.0} h.1)).is, for_makes dialect (chars w.start.now) (chars w.test.now) (chars w.next.now) (chars w.body.now) g.0 h.0 (g.2 0) h.2.1)
