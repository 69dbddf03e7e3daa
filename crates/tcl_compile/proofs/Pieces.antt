-- What the code of pieces and words does, wherever it stands.
use Rattle.std.proofs.Common.{◌≡◌, ℕ, suc, ◌+◌, ◌<◌, ◌≤◌, List, [], ◌∷◌, ◌++◌, length, Some, cond, refl, sym, ap, ◌∙◌, subst, arith, append_assoc, append-nil, length-append, ⊎_elim}
use Rattle.std.proofs.lemmas.Bool.{cases_lt, lt-ltb, le-ltb}
use Rattle.std.specs.Prelude.{slice_get}
use Rattle.std.specs.List.{concat}
use Rattle.tcl_chars.specs.declared.numbers.Dialect.{Dialect}
use Rattle.tcl_words.specs.Parts.{Part, Parts, parts_of}
use Rattle.tcl_pages.specs.Texts.{Text}
use Rattle.tcl_meaning.specs.declared.code.Code.{Code}
use Rattle.tcl_meaning.specs.declared.code.Code.TheVariants as ending
use Rattle.tcl_meaning.specs.Completions.{Completion, nothing, too_deep, code_now}
use Rattle.tcl_meaning.specs.State.{State}
use Rattle.tcl_meaning.specs.Variables.{read}
use Rattle.tcl_meaning.specs.Effects.{Got, Gives, Broke, Exits, Untold, Prog, on_got, exec}
use Rattle.tcl_meaning.specs.Script.{Run, most_depth}
use Rattle.tcl_meaning.specs.Substitution.{inside, result_by, bracket_text, spelled_element, piece_text, index_text, pieces_text}
use Rattle.tcl_meaning.specs.Tasks.{Task, Script}
use Rattle.tcl_meaning.specs.Value.{Value, Has, Fails, ◌>>=◌, on_value, give, behind}
use Rattle.tcl_meaning.proofs.Reaching.{bind_bind, on_got_give, on_got_same}
use Rattle.tcl_meaning.proofs.Runs.{exec_bind}
use Rattle.tcl_meaning.proofs.ScriptRules.{script_deep, index_pieces, pieces_start, pieces_next}
use Rattle.tcl_code.specs.Instructions.{Instruction, Push, Read, ReadElement, Join, Enter, Leave}
use Rattle.tcl_code.specs.Machine as M
use Rattle.tcl_code.specs.Machine.{Texts, Stack, stack_of, with_text, with_result, text_at, result_at, Spot, spot, To, taken, on_taken, landed_by, follow, act, exec_code}
use Rattle.tcl_code.specs.Parts.{HasAt, Fits, Adds, value_landed, LandsValue, Lands, Does}
use Rattle.tcl_code.specs.Valid.{Ahead, shape, IsFine, ways_of}
use Rattle.tcl_code.proofs.Shapes.{fits_one, fits_same, fits_joined}
use Rattle.tcl_code.proofs.Place.{has_front, has_back}
use Rattle.tcl_code.proofs.Steps.{one, final, here, moved, then, same, on_read_is}
use Rattle.tcl_compile.specs.Fragments.{onto, stacked, pieces_value, Joins, Follows}
use Rattle.tcl_compile.proofs.Failing.{landed_stops}

-- ---- texts on the stack

taken_onto : (ts stack : Texts) (k : ℕ) → taken (length ts + k) [] (onto ts stack) ≡ taken k ts stack
taken_onto [] stack k = let e : length {A = Text} [] + k ≡ k = omega arith in ap (λ n. taken n [] stack) e
taken_onto (t ∷ ts) stack k =
    let e : length (t ∷ ts) + k ≡ length ts + suc k = omega arith in
    ap (λ n. taken n [] (onto ts (t ∷ stack))) e ∙ taken_onto ts (t ∷ stack) (suc k)

pub taken_all : (n : ℕ) (ts stack : Texts) → length ts + 0 ≡ n → taken n [] (onto ts stack) ≡ Some (ts, stack)
taken_all n ts stack e = ap (λ m. taken m [] (onto ts stack)) (sym e) ∙ taken_onto ts stack 0

onto_more : (ts : Texts) (t : Text) (stack : Texts) → onto (ts ++ t ∷ []) stack ≡ t ∷ onto ts stack
onto_more [] t stack = refl
onto_more (x ∷ ts) t stack = onto_more ts t (x ∷ stack)

pub stacked_more : (ts : Texts) (t : Text) (stack : Stack) → stacked (ts ++ t ∷ []) stack ≡ with_text t (stacked ts stack)
stacked_more ts t stack = ap (λ x. stack_of x stack.lists stack.results stack.loops) (onto_more ts t stack.texts)

concat_more : (ts : Texts) (t : Text) → concat (ts ++ t ∷ []) ≡ concat ts ++ t
concat_more [] t = append-nil t
concat_more (x ∷ ts) t = ap (λ r. x ++ r) (concat_more ts t) ∙ sym (append_assoc x (concat ts) t)

-- ---- shapes

pub adds_one : (i : Instruction) → ((h l d p o : ℕ) → IsFine i (shape h l d p o)) → ((h l d p o : ℕ) → ways_of i (shape h l d p o) ≡ (Ahead 0, shape (h + 1) l d p o) ∷ []) → Adds (i ∷ [])
adds_one i f w = λ h l d p o. fits_one i (shape h l d p o) (shape (h + 1) l d p o) (shape (h + 1) l d p o) (f h l d p o) (w h l d p o) refl

push_ways : (t : Text) (h l d p o : ℕ) → ways_of (Push t) (shape h l d p o) ≡ (Ahead 0, shape (h + 1) l d p o) ∷ []
push_ways t h l d p o = ap (λ n. (Ahead 0, shape n l d p o) ∷ []) (omega arith)

module _ (dialect : Dialect) where
  -- ---- pieces

  pub push_does : (t : Text) → Does dialect (Push t ∷ []) (λ d. give t)
  push_does t = record { from = λ code at stack d s has. one dialect code (Push t) has.0 refl (here dialect code refl); adds = adds_one (Push t) (λ h l d p o. tt) (push_ways t) }

  pub read_does : (name : Text) → Does dialect (Read name ∷ []) (λ d. read name)
  read_does name = record {
    from = λ code at stack d s has. final dialect code (Read name) has.0 (λ next. on_read_is dialect next stack.loops name (text_at (at + 1) stack d) s);
    adds = adds_one (Read name) (λ h l d p o. tt) (λ h l d p o. ap (λ n. (Ahead 0, shape n l d p o) ∷ []) (omega arith));
  }

  pub element_does : (name : Text) (index : Parts) (c : List Instruction) → Does dialect c (λ d. index_text d index) → Does dialect (c ++ ReadElement name ∷ []) (λ d. index_text d index >>= λ i. read (spelled_element name i))
  element_does name index c h = record {
    from = λ code at stack d s has.
        let back = has_back code at c (ReadElement name ∷ []) has in
        then dialect code (index_text d index) (λ i. read (spelled_element name i)) (h.from code at stack d s (has_front code at c _ has))
        (λ i u. moved dialect code (omega (arith, length-append c (ReadElement name ∷ [])))
        (final dialect code (ReadElement name) back.0 (λ next. on_read_is dialect next stack.loops (spelled_element name i) (text_at (at + length c + 1) stack d) u)));
    adds = λ x l d p o. fits_joined c (ReadElement name ∷ []) (shape x l d p o) (shape (x + 1) l d p o) (shape (x + 1) l d p o) (h.adds x l d p o) (fits_one (ReadElement name) (shape (x + 1) l d p o) (shape (x + 1) l d p o) _ (omega arith) refl (ap (λ n. shape n l d p o) (omega arith)));
  }

  pub index_does : (ps : List Part) (c : List Instruction) → Does dialect c (λ d. pieces_text d ps) → Does dialect c (λ d. index_text d (parts_of ps))
  index_does ps c h = record { from = λ code at stack d s has. same dialect code (ap (λ m. exec (Run dialect) m s) (sym (index_pieces d ps))) (h.from code at stack d s has); adds = h.adds }

  -- ---- a script one deeper

  abbrev pub deeper : List Instruction → List Instruction
  deeper c = Enter ∷ (c ++ Leave ∷ [])

  abbrev Deeper : Text → List Instruction → List Instruction → ℕ → Stack → ℕ → State → Type 0
  Deeper t c code at stack d s = LandsValue dialect code stack.loops (spot at stack d) s (text_at (at + length (deeper c)) stack d) (exec (Run dialect) (bracket_text d t) s)

  -- what a bracket makes of its script's end
  abbrev left : Got Completion → Got (Value Text)
  left g = on_got g (λ c u. exec (Run dialect) (result_by (code_now c) c) u)

  bracket_left : (d : ℕ) (t : Text) (s : State) → exec (Run dialect) (bracket_text d t) s ≡ left (Run dialect (inside d t) s)
  bracket_left d t s = refl

  module _ (code : List Instruction) (at at1 d : ℕ) (stack : Stack) (h : slice_get code at ≡ Some Leave) (e : at1 ≡ at + 1) where
    stopped : {p : Spot} {s : State} (c : Completion) (u : State) → (code_now c ≡ ending.Ok → ⊥) → Lands dialect code stack.loops p s (result_at at stack (suc d)) (Gives c u) → LandsValue dialect code stack.loops p s (text_at at1 stack d) (Gives (Fails c) u)
    stopped c u n l = record { by = λ k. let a = l.by k in (a.0, a.1, a.2 ∙ landed_stops (exec_code dialect code k) stack.loops (result_at at stack (suc d)) (code_now c) c u n) }

    resulted : {p : Spot} {s : State} (c : Completion) (u : State) → code_now c ≡ ending.Ok → Lands dialect code stack.loops p s (result_at at stack (suc d)) (Gives c u) → LandsValue dialect code stack.loops p s (text_at at1 stack d) (Gives (Has c.result) u)
    resulted c u f l = record {
      by = λ k.
          let a = l.by (suc k) in (
            a.0,
            omega (arith, a.1),
            a.2 ∙ ap (λ m. landed_by (exec_code dialect code (suc k)) stack.loops (result_at at stack (suc d)) m c u) f
                ∙ ap (λ i. act dialect i (exec_code dialect code k) (spot at (with_result c stack) (suc d)) u) h
                ∙ ap (λ n. exec_code dialect code k (spot n (with_text c.result stack) d) u) (sym e),
          );
    }

    by_code : {p : Spot} {s : State} (c : Completion) (u : State) (k : Code) → code_now c ≡ k → Lands dialect code stack.loops p s (result_at at stack (suc d)) (Gives c u) → LandsValue dialect code stack.loops p s (text_at at1 stack d) (exec (Run dialect) (result_by k c) u)
    by_code c u ending.Ok f l = resulted c u f l
    by_code c u ending.Error f l = stopped c u (λ q. cc) l
    by_code c u ending.Return f l = stopped c u (λ q. cc) l
    by_code c u ending.Break f l = stopped c u (λ q. cc) l
    by_code c u ending.Continue f l = stopped c u (λ q. cc) l
    by_code c u (ending.Other z) f l = stopped c u (λ q. cc) l

    leave : {p : Spot} {s : State} (g : Got Completion) → Lands dialect code stack.loops p s (result_at at stack (suc d)) g → LandsValue dialect code stack.loops p s (text_at at1 stack d) (left g)
    leave (Gives c u) l = by_code c u (code_now c) refl l
    leave (Broke u) l = record { by = l.by }
    leave (Exits m u) l = record { by = l.by }
    leave (Untold c) l = record { by = l.by }

  pub bracket_does : (t : Text) (c : List Instruction) → Follows dialect c t → Does dialect (deeper c) (λ d. bracket_text d t)
  bracket_does t c f = record { from = λ code at stack d s has. ⊎_elim (deep code at stack d s has) (shallow code at stack d s has) (cases_lt most_depth (suc d)); adds = fits }
    where
      fits : (h l d p o : ℕ) → Fits (deeper c) (shape h l d p o) (shape (h + 1) l d p o)
      fits h l d p o =
          fits_joined (Enter ∷ []) (c ++ Leave ∷ []) (shape h l d p o) (shape h l (d + 1) p o) (shape (h + 1) l d p o)
          (fits_one Enter (shape h l d p o) (shape h l (d + 1) p o) _ tt refl refl)
          (fits_joined c (Leave ∷ []) (shape h l (d + 1) p o) (shape h l (d + 1) p o) (shape (h + 1) l d p o) (f.keeps h l (d + 1) p o)
          (fits_one Leave (shape h l (d + 1) p o) (shape (h + 1) l d p o) _ (omega arith) refl (ap (λ n. shape (h + 1) l n p o) (omega arith))))

      deep : (code : List Instruction) (at : ℕ) (stack : Stack) (d : ℕ) (s : State) → HasAt code at (deeper c) → most_depth < suc d → Deeper t c code at stack d s
      deep code at stack d s has lt =
          let e = script_deep dialect (d + 1) nothing t s (omega arith) in
          final dialect code Enter has.0 (λ next. ap (λ b. follow dialect next stack.loops (cond b (M.Fails too_deep s) (To (spot (at + 1) (with_result nothing stack) (suc d)) s))) (lt-ltb most_depth (suc d) lt)
          ∙ ap (λ g. value_landed next stack.loops (text_at (at + length (deeper c)) stack d) g) (sym (ap left e)))

      shallow : (code : List Instruction) (at : ℕ) (stack : Stack) (d : ℕ) (s : State) → HasAt code at (deeper c) → suc d ≤ most_depth → Deeper t c code at stack d s
      shallow code at stack d s has le =
          let back = has_back code (at + 1) c (Leave ∷ []) has.1 in
          let n : suc d ≡ d + 1 = omega arith in
          one dialect code Enter has.0 (ap (λ b. cond b (M.Fails too_deep s) (To (spot (at + 1) (with_result nothing stack) (suc d)) s)) (le-ltb most_depth (suc d) le))
          (same dialect code (ap (λ m. left (Run dialect (Script m nothing t) s)) n)
          (leave code (at + 1 + length c) (at + length (deeper c)) d stack back.0 (omega (arith, length-append c (Leave ∷ []))) (Run dialect (Script (suc d) nothing t) s)
          (f.from code (at + 1) nothing stack (suc d) s refl le (has_front code (at + 1) c (Leave ∷ []) has.1))))

  -- ---- words

  pub joins_end : (n : ℕ) → Joins dialect n (Join n ∷ []) []
  joins_end n = record {
    from = λ code at ts stack d s e has.
        one dialect code (Join n) has.0 (ap (λ x. on_taken x (λ us below. To (spot (at + 1) (stack_of (concat us ∷ below) stack.lists stack.results stack.loops) d) s)) (taken_all n ts stack.texts e))
        (same dialect code (ap (λ t. Gives (Has t) s) (sym (append-nil (concat ts)))) (here dialect code refl));
    adds = λ h k l d p o e. fits_one (Join n) (shape (h + k) l d p o) (shape (h + 1) l d p o) _ (omega arith) refl (ap (λ m. shape m l d p o) (omega arith));
  }

  -- the next piece, and what is left
  pieces_step : (d : ℕ) (done : Text) (p : Part) (ps : List Part) (s : State) → exec (Run dialect) (behind done (pieces_text d (p ∷ ps))) s ≡ exec (Run dialect) (piece_text d p >>= λ t. behind (done ++ t) (pieces_text d ps)) s
  pieces_step d done p ps s = pieces_next dialect d done p ps s ∙ bind_bind (Run dialect) (piece_text d p) (λ t. give (done ++ t)) (λ t. behind t (pieces_text d ps)) s

  pub joins_next : (n : ℕ) (p : Part) (ps : List Part) (c more : List Instruction) → Does dialect c (λ d. piece_text d p) → Joins dialect n more ps → Joins dialect n (c ++ more) (p ∷ ps)
  joins_next n p ps c more f g = record {
    from = λ code at ts stack d s e has.
        let back = has_back code at c more has in
        same dialect code (sym (pieces_step d (concat ts) p ps s))
        (then dialect code (piece_text d p) (λ t. behind (concat ts ++ t) (pieces_text d ps)) (f.from code at (stacked ts stack) d s (has_front code at c more has))
        (λ t u. moved dialect code (omega (arith, length-append c more))
        (same dialect code (ap (λ x. exec (Run dialect) (behind x (pieces_text d ps)) u) (concat_more ts t))
        (subst (λ st. LandsValue dialect code stack.loops (spot (at + length c) st d) u (text_at (at + length c + length more) stack d) (exec (Run dialect) (pieces_value d (ts ++ t ∷ []) ps) u)) (stacked_more ts t stack)
        (g.from code (at + length c) (ts ++ t ∷ []) stack d u (omega (arith, e, length-append ts (t ∷ []))) back)))));
    adds = λ h k l d q o e. fits_joined c more (shape (h + k) l d q o) (shape (h + k + 1) l d q o) (shape (h + 1) l d q o) (f.adds (h + k) l d q o) (fits_same (ap (λ m. shape m l d q o) (omega arith)) refl (g.adds h (k + 1) l d q o (omega arith)));
  }

  pub word_does : (ps : List Part) (c : List Instruction) → Joins dialect (length ps) c ps → Does dialect c (λ d. pieces_text d ps)
  word_does ps c f = record { from = λ code at stack d s has. same dialect code (sym (pieces_start dialect d ps s)) (f.from code at [] stack d s (omega arith) has); adds = λ h l d p o. fits_same (ap (λ m. shape m l d p o) (omega arith)) refl (f.adds h 0 l d p o (omega arith)) }

  abbrev alone : Text → Prog Task (Value Text)
  alone t = give [] >>= λ more. give (t ++ more)

  piece_alone : (d : ℕ) (p : Part) (s : State) → exec (Run dialect) (pieces_text d (p ∷ [])) s ≡ exec (Run dialect) (piece_text d p) s
  piece_alone d p s =
      exec_bind (Run dialect) (piece_text d p) (on_value alone) s ∙ on_got_same (exec (Run dialect) (piece_text d p) s) (λ v u. exec (Run dialect) (on_value alone v) u) (λ v u. Gives v u) go ∙ on_got_give (exec (Run dialect) (piece_text d p) s)
    where
      go : (v : Value Text) (u : State) → exec (Run dialect) (on_value alone v) u ≡ Gives v u
      go (Has t) u = ap (λ x. Gives (Has x) u) (append-nil t)
      go (Fails c) u = refl

  -- a word of one piece is that piece
  pub piece_does : (p : Part) (c : List Instruction) → Does dialect c (λ d. piece_text d p) → Does dialect c (λ d. pieces_text d (p ∷ []))
  piece_does p c f = record { from = λ code at stack d s has. same dialect code (sym (piece_alone d p s)) (f.from code at stack d s has); adds = f.adds }
