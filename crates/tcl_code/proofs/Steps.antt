-- One instruction, and what follows it.
use Rattle.std.proofs.Common.{◌≡◌, ℕ, suc, List, Some, Result, Ok, Err, refl, sym, ap, ◌∙◌, subst, arith}
use Rattle.std.specs.Prelude.{slice_get}
use Rattle.tcl_chars.specs.declared.numbers.Dialect.{Dialect}
use Rattle.tcl_pages.specs.Answers.{Answer}
use Rattle.tcl_pages.specs.Texts.{Text}
use Rattle.tcl_meaning.specs.declared.refusal.Refusal.{Refusal}
use Rattle.tcl_meaning.specs.declared.code.Code.TheVariants as ending
use Rattle.tcl_meaning.specs.Completions.{Completion, code_now}
use Rattle.tcl_meaning.specs.State.{State}
use Rattle.tcl_meaning.specs.Effects.{Got, Gives, Broke, Exits, Untold, Prog, on_got, exec}
use Rattle.tcl_meaning.specs.Script.{Run}
use Rattle.tcl_meaning.specs.Tasks.{Task}
use Rattle.tcl_meaning.specs.Value.{Value, Has, Fails, ◌>>=◌, on_value, judged}
use Rattle.tcl_meaning.specs.Variables.{get, read_result, read}
use Rattle.tcl_meaning.proofs.Runs.{exec_bind}
use Rattle.tcl_code.specs.Instructions.{Instruction}
use Rattle.tcl_code.specs.Machine.{Loop, Stack, with_text, with_result, text_at, result_at, Spot, spot, To, landed_by, landed, follow, move, act, on_read, on_answer, exec_code, Next}
use Rattle.tcl_code.specs.Parts.{value_landed, LandsValue, Lands}

module _ (dialect : Dialect) (code : List Instruction) {os : List Loop} where
  -- ---- values

  -- one instruction, and what follows from where it leads
  pub one : {A : Type 0} {p : Spot} {s : State} {q : Spot} {s1 : State} {r : A → Spot} {g : Got (Value A)} (i : Instruction) → slice_get code p.at ≡ Some i → move dialect (Some i) p.at p.stack.texts p.stack.lists p.stack.results p.stack.loops p.depth s ≡ To q s1 → LandsValue dialect code os q s1 r g → LandsValue dialect code os p s r g
  one {A} {p} {s} i h e n = record {
    by = λ k. let b = n.by k in (suc b.0, omega (arith, b.1), ap (λ x. act dialect x (exec_code dialect code b.0) p s) h ∙ ap (follow dialect (exec_code dialect code b.0) p.stack.loops) e ∙ b.2);
  }

  -- one instruction that comes to g itself
  pub final : {A : Type 0} {p : Spot} {s : State} {r : A → Spot} {g : Got (Value A)} (i : Instruction) → slice_get code p.at ≡ Some i → ((next : Next) → follow dialect next p.stack.loops (move dialect (Some i) p.at p.stack.texts p.stack.lists p.stack.results p.stack.loops p.depth s) ≡ value_landed next os r g) → LandsValue dialect code os p s r g
  final {A} {p} {s} i h e = record { by = λ k. (suc k, omega arith, ap (λ x. act dialect x (exec_code dialect code k) p s) h ∙ e (exec_code dialect code k)) }

  -- the text stands there already
  pub here : {at at1 : ℕ} {t : Text} {stack : Stack} {d : ℕ} {s : State} → at ≡ at1 → LandsValue dialect code os (spot at (with_text t stack) d) s (text_at at1 stack d) (Gives (Has t) s)
  here {at} {at1} {t} {stack} {d} {s} e = record { by = λ k. (k, omega arith, ap (λ a. exec_code dialect code k (spot a (with_text t stack) d) s) e) }

  -- the same landing, at the same place
  pub moved : {p : Spot} {s : State} {at at1 : ℕ} {stack : Stack} {d : ℕ} {g : Got (Value Text)} → at ≡ at1 → LandsValue dialect code os p s (text_at at stack d) g → LandsValue dialect code os p s (text_at at1 stack d) g
  moved {p} {s} {stack = stack} {d = d} {g = g} e l = subst (λ a. LandsValue dialect code os p s (text_at a stack d) g) e l

  -- what is the same as g
  pub same : {A : Type 0} {p : Spot} {s : State} {q : A → Spot} {g h : Got (Value A)} → g ≡ h → LandsValue dialect code os p s q g → LandsValue dialect code os p s q h
  same {A} {p} {s} {q} e l = subst (LandsValue dialect code os p s q) e l

  -- what comes after a value
  after : {A B : Type 0} {p : Spot} {s : State} {q : A → Spot} {r : B → Spot} (g : Got (Value A)) (f : A → Prog Task (Value B)) → LandsValue dialect code os p s q g → ((a : A) (u : State) → LandsValue dialect code os (q a) u r (exec (Run dialect) (f a) u)) → LandsValue dialect code os p s r (on_got g (λ v u. exec (Run dialect) (on_value f v) u))
  after (Gives (Has t) u) f l n = record { by = λ k. let b = (n t u).by k in let a = l.by b.0 in (a.0, omega (arith, a.1, b.1), a.2 ∙ b.2) }
  after (Gives (Fails c) u) f l n = record { by = l.by }
  after (Broke u) f l n = record { by = l.by }
  after (Exits m u) f l n = record { by = l.by }
  after (Untold c) f l n = record { by = l.by }

  -- a program of two
  pub then : {A B : Type 0} {p : Spot} {s : State} {q : A → Spot} {r : B → Spot} (m : Prog Task (Value A)) (f : A → Prog Task (Value B)) → LandsValue dialect code os p s q (exec (Run dialect) m s) → ((a : A) (u : State) → LandsValue dialect code os (q a) u r (exec (Run dialect) (f a) u)) → LandsValue dialect code os p s r (exec (Run dialect) (m >>= f) s)
  then {A} {B} {p} {s} {q} {r} m f l n = subst (LandsValue dialect code os p s r) (sym (exec_bind (Run dialect) m (on_value f) s)) (after (exec (Run dialect) m s) f l n)

  -- ---- completions

  pub one_done : {p : Spot} {s : State} {q : Spot} {s1 : State} {r : Completion → Spot} {g : Got Completion} (i : Instruction) → slice_get code p.at ≡ Some i → move dialect (Some i) p.at p.stack.texts p.stack.lists p.stack.results p.stack.loops p.depth s ≡ To q s1 → Lands dialect code os q s1 r g → Lands dialect code os p s r g
  one_done {p} {s} i h e n = record {
    by = λ k. let b = n.by k in (suc b.0, omega (arith, b.1), ap (λ x. act dialect x (exec_code dialect code b.0) p s) h ∙ ap (follow dialect (exec_code dialect code b.0) p.stack.loops) e ∙ b.2);
  }

  pub final_done : {p : Spot} {s : State} {r : Completion → Spot} {g : Got Completion} (i : Instruction) → slice_get code p.at ≡ Some i → ((next : Next) → follow dialect next p.stack.loops (move dialect (Some i) p.at p.stack.texts p.stack.lists p.stack.results p.stack.loops p.depth s) ≡ landed next os r g) → Lands dialect code os p s r g
  final_done {p} {s} i h e = record { by = λ k. (suc k, omega arith, ap (λ x. act dialect x (exec_code dialect code k) p s) h ∙ e (exec_code dialect code k)) }

  -- a completion whose code is ok stands there already
  pub here_done : {at at1 : ℕ} {c : Completion} {stack : Stack} {d : ℕ} {s : State} → at ≡ at1 → code_now c ≡ ending.Ok → Lands dialect code os (spot at (with_result c stack) d) s (result_at at1 stack d) (Gives c s)
  here_done {at} {at1} {c} {stack} {d} {s} e n = record {
    by = λ k. (k, omega arith, ap (λ a. exec_code dialect code k (spot a (with_result c stack) d) s) e ∙ sym (ap (λ m. landed_by (exec_code dialect code k) os (result_at at1 stack d) m c s) n));
  }

  pub moved_done : {p : Spot} {s : State} {at at1 : ℕ} {stack : Stack} {d : ℕ} {g : Got Completion} → at ≡ at1 → Lands dialect code os p s (result_at at stack d) g → Lands dialect code os p s (result_at at1 stack d) g
  moved_done {p} {s} {stack = stack} {d = d} {g = g} e l = subst (λ a. Lands dialect code os p s (result_at a stack d) g) e l

  pub same_done : {p : Spot} {s : State} {q : Completion → Spot} {g h : Got Completion} → g ≡ h → Lands dialect code os p s q g → Lands dialect code os p s q h
  same_done {p} {s} {q} e l = subst (Lands dialect code os p s q) e l

-- what reading a variable comes to
pub on_read_is : (dialect : Dialect) (next : Next) (os : List Loop) (name : Text) (to : Text → Spot) (s : State) → follow dialect next os (on_read name (get s.store name) to s) ≡ value_landed next os to (exec (Run dialect) (read name) s)
on_read_is dialect next os name to s = go (get s.store name)
  where
    go : (r : Result Text Refusal) → follow dialect next os (on_read name r to s) ≡ value_landed next os to (exec (Run dialect) (read_result name r) s)
    go (Ok t) = refl
    go (Err refusal) = refl

-- what an answer comes to
pub on_answer_is : {A : Type 0} (dialect : Dialect) (next : Next) (os : List Loop) (r : Answer A) (to : A → Spot) (s : State) → follow dialect next os (on_answer r to s) ≡ value_landed next os to (exec (Run dialect) (judged r) s)
on_answer_is dialect next os (Ok a) to s = refl
on_answer_is dialect next os (Err message) to s = refl
