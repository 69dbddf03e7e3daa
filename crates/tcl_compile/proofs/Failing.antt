-- What stands in place of a value is never a completion whose code is ok; so a program that goes on by its value lands where
-- that of a command does.
use Rattle.std.proofs.Common.{◌≡◌, ℕ, Bool, true, false, List, [], ◌∷◌, Result, Ok, Err, refl, sym, ◌∙◌, subst, arith}
use Rattle.tcl_chars.specs.declared.numbers.Dialect.{Dialect}
use Rattle.tcl_list.specs.Elements.{elements_of}
use Rattle.tcl_pages.specs.Texts.{Text}
use Rattle.tcl_words.specs.Parts.{Part, text, escape, var, elem_, bracket, Parts, no_parts, part}
use Rattle.tcl_meaning.specs.declared.code.Code.{Code}
use Rattle.tcl_meaning.specs.declared.code.Code.TheVariants as ending
use Rattle.tcl_meaning.specs.declared.refusal.Refusal.{Refusal}
use Rattle.tcl_meaning.specs.Completions.{Completion, code_now}
use Rattle.tcl_meaning.specs.State.{State}
use Rattle.tcl_meaning.specs.Effects.{Here, Got, Gives, Broke, Exits, Untold, Prog, Give, on_got, exec, ◌>>=◌ as andthen}
use Rattle.tcl_meaning.specs.Script.{Run}
use Rattle.tcl_meaning.specs.Substitution.{inside, result_by, bracket_text, spelled_element, piece_text, index_text, pieces_text, expanded}
use Rattle.tcl_meaning.specs.Tasks.{Task}
use Rattle.tcl_meaning.specs.Value.{Value, Has, Fails, ◌>>=◌, on_value, give, judged, call}
use Rattle.tcl_meaning.specs.Variables.{get, read_result, read}
use Rattle.tcl_meaning.proofs.Runs.{exec_bind}
use Rattle.tcl_code.specs.Instructions.{Instruction}
use Rattle.tcl_code.specs.Machine.{Loop, Next, Spot, thrown_by, landed_by, exec_code}
use Rattle.tcl_code.specs.Parts.{LandsValue, Lands}

-- what follows a value, in place of which stands a completion
abbrev pub finishing : {A : Type 0} → (A → Prog Task Completion) → Value A → Prog Task Completion
finishing f (Has a) = f a
finishing f (Fails c) = Give c

-- a completion whose code isn't ok is thrown
pub landed_stops : (next : Next) (os : List Loop) (to : Completion → Spot) (k : Code) (c : Completion) (s : State) → (k ≡ ending.Ok → ⊥) → landed_by next os to k c s ≡ thrown_by next os k c s
landed_stops next os to ending.Ok c s h = absurd (h refl)
landed_stops next os to ending.Error c s h = refl
landed_stops next os to ending.Return c s h = refl
landed_stops next os to ending.Break c s h = refl
landed_stops next os to ending.Continue c s h = refl
landed_stops next os to (ending.Other z) c s h = refl

-- what is there fails with no completion that is ok
abbrev pub FailsBadly : {A : Type 0} → Got (Value A) → Type 0
FailsBadly (Gives (Has a) s) = Unit {0}
FailsBadly (Gives (Fails c) s) = code_now c ≡ ending.Ok → ⊥
FailsBadly (Broke r) = Unit {0}
FailsBadly (Exits n r) = Unit {0}
FailsBadly (Untold c) = Unit {0}

module _ (dialect : Dialect) where
  -- and so does a program, from every state
  pub record NeverOk {A : Type 0} (p : Prog Task (Value A)) : Type 0 where
    pub fails : (s : State) → FailsBadly (exec (Run dialect) p s)

  after_fails : {A B : Type 0} (g : Got (Value A)) (f : A → Prog Task (Value B)) → FailsBadly g → ((a : A) → NeverOk (f a)) → FailsBadly (on_got g (λ v u. exec (Run dialect) (on_value f v) u))
  after_fails (Gives (Has a) s) f h k = (k a).fails s
  after_fails (Gives (Fails c) s) f h k = h
  after_fails (Broke r) f h k = tt
  after_fails (Exits n r) f h k = tt
  after_fails (Untold c) f h k = tt

  pub both_fail : {A B : Type 0} (p : Prog Task (Value A)) (f : A → Prog Task (Value B)) → NeverOk p → ((a : A) → NeverOk (f a)) → NeverOk (p >>= f)
  both_fail p f h k = record { fails = λ s. subst FailsBadly (sym (exec_bind (Run dialect) p (on_value f) s)) (after_fails (exec (Run dialect) p s) f (h.fails s) k) }

  pub give_fails : {A : Type 0} (a : A) → NeverOk (give a)
  give_fails a = record { fails = λ s. tt }

  pub judged_fails : {A : Type 0} (r : Result A Text) → NeverOk (judged r)
  judged_fails (Ok a) = record { fails = λ s. tt }
  judged_fails (Err message) = record { fails = λ s e. cc }

  -- ---- words

  read_fails : (name : Text) → NeverOk (read name)
  read_fails name = record { fails = λ s. go s (get s.store name) }
    where
      go : (s : State) (r : Result Text Refusal) → FailsBadly (exec (Run dialect) (read_result name r) s)
      go s (Ok t) = tt
      go s (Err refusal) = λ e. cc

  bracket_fails : (d : ℕ) (script : Text) → NeverOk (bracket_text d script)
  bracket_fails d script = both_fail (call Here (inside d script)) (λ c. result_by (code_now c) c) (record { fails = λ s. called (Run dialect (inside d script) s) }) (λ c. record { fails = λ s. by_code c s (code_now c) refl })
    where
      called : (g : Got Completion) → FailsBadly (on_got g (λ c u. exec (Run dialect) (give c) u))
      called (Gives c s) = tt
      called (Broke r) = tt
      called (Exits n r) = tt
      called (Untold c) = tt

      by_code : (c : Completion) (s : State) (k : Code) → code_now c ≡ k → FailsBadly (exec (Run dialect) (result_by k c) s)
      by_code c s ending.Ok e = tt
      by_code c s ending.Error e = λ f. cc
      by_code c s ending.Return e = λ f. cc
      by_code c s ending.Break e = λ f. cc
      by_code c s ending.Continue e = λ f. cc
      by_code c s (ending.Other z) e = λ f. cc

  mutual
    pub piece_fails : (d : ℕ) (p : Part) → NeverOk (piece_text d p)
    piece_fails d (text s) = give_fails s.text
    piece_fails d (escape s c) = give_fails (c ∷ [])
    piece_fails d (var s name) = read_fails name.text
    piece_fails d (elem_ s name index) = both_fail (index_text d index) (λ i. read (spelled_element name.text i)) (index_fails d index) (λ i. read_fails (spelled_element name.text i))
    piece_fails d (bracket s script) = bracket_fails d script.text

    index_fails : (d : ℕ) (ps : Parts) → NeverOk (index_text d ps)
    index_fails d no_parts = give_fails []
    index_fails d (part p ps) = both_fail (piece_text d p) _ (piece_fails d p) (λ t. both_fail (index_text d ps) _ (index_fails d ps) (λ more. give_fails _))

  pub pieces_fail : (d : ℕ) (ps : List Part) → NeverOk (pieces_text d ps)
  pieces_fail d [] = give_fails []
  pieces_fail d (p ∷ ps) = both_fail (piece_text d p) _ (piece_fails d p) (λ t. both_fail (pieces_text d ps) _ (pieces_fail d ps) (λ more. give_fails _))

  pub expanded_fails : (b : Bool) (t : Text) → NeverOk (expanded b t)
  expanded_fails true t = judged_fails (elements_of t)
  expanded_fails false t = give_fails (t ∷ [])

  -- ---- landing

  module _ (code : List Instruction) {os : List Loop} where
    pub after_value : {A : Type 0} {p : Spot} {s : State} {q : A → Spot} {r : Completion → Spot} (g : Got (Value A)) (f : A → Prog Task Completion) → FailsBadly g → LandsValue dialect code os p s q g → ((a : A) (u : State) → g ≡ Gives (Has a) u → Lands dialect code os (q a) u r (exec (Run dialect) (f a) u))
        → Lands dialect code os p s r (on_got g (λ v u. exec (Run dialect) (finishing f v) u))
    after_value (Gives (Has t) u) f h l n = record { by = λ k. let b = (n t u refl).by k in let a = l.by b.0 in (a.0, omega (arith, a.1, b.1), a.2 ∙ b.2) }
    after_value {r = r} (Gives (Fails c) u) f h l n = record { by = λ k. let a = l.by k in (a.0, a.1, a.2 ∙ sym (landed_stops (exec_code dialect code k) os r (code_now c) c u h)) }
    after_value (Broke u) f h l n = record { by = l.by }
    after_value (Exits m u) f h l n = record { by = l.by }
    after_value (Untold c) f h l n = record { by = l.by }

    -- a value, which is known, and then a command's completion
    pub then_known : {A : Type 0} {p : Spot} {s : State} {q : A → Spot} {r : Completion → Spot} (m : Prog Task (Value A)) (f : A → Prog Task Completion) → NeverOk m → LandsValue dialect code os p s q (exec (Run dialect) m s)
        → ((a : A) (u : State) → exec (Run dialect) m s ≡ Gives (Has a) u → Lands dialect code os (q a) u r (exec (Run dialect) (f a) u)) → Lands dialect code os p s r (exec (Run dialect) (andthen m (finishing f)) s)
    then_known {A} {p} {s} {q} {r} m f h l n = subst (Lands dialect code os p s r) (sym (exec_bind (Run dialect) m (finishing f) s)) (after_value (exec (Run dialect) m s) f (h.fails s) l n)

    -- a value, and then a command's completion
    pub then_done : {A : Type 0} {p : Spot} {s : State} {q : A → Spot} {r : Completion → Spot} (m : Prog Task (Value A)) (f : A → Prog Task Completion) → NeverOk m → LandsValue dialect code os p s q (exec (Run dialect) m s) → ((a : A) (u : State) → Lands dialect code os (q a) u r (exec (Run dialect) (f a) u))
        → Lands dialect code os p s r (exec (Run dialect) (andthen m (finishing f)) s)
    then_done m f h l n = then_known m f h l (λ a u e. n a u)
