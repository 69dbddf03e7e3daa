-- Commands of literal words, emitted.
use Rattle.std.proofs.Common.{◌≡◌, ℕ, ◌+◌, ◌<◌, ◌≤◌, List, [], ◌∷◌, ◌++◌, length, get_or, map, subst, arith}
use Rattle.std.specs.Prelude.{option_map}
use Rattle.std.specs.Str.{chars}
use Rattle.tcl_chars.specs.declared.numbers.Dialect.{Dialect}
use Rattle.tcl_words.specs.Parts.{Shape}
use Rattle.tcl_pages.specs.Texts.{Text}
use Rattle.tcl_meaning.specs.Substitution.{pieces_text}
use Rattle.tcl_code.specs.Guards.{inlined_of, name_of}
use Rattle.tcl_code.specs.Instructions.{Call, Guard, Under, Write, Bump, Skip}
use Rattle.tcl_code.specs.Parts.{Does}
use Rattle.tcl_code.specs.Turns.{turns_of}
use Rattle.tcl_code.specs.declared.inlined.Change.{Change}
use Rattle.tcl_code.specs.declared.inlined.Change.TheVariants as change
use Rattle.tcl_code.specs.declared.inlined.Inlined.{Inlined}
use Rattle.tcl_code.specs.declared.inlined.Inlined.TheVariants as inlined
use Rattle.tcl_compile.specs.Changes.{IsChange, changing}
use Rattle.tcl_compile.specs.Emitted.{CommandCode, WordCode}
use Rattle.tcl_compile.specs.Forms.{clause_of, command_of, IsForm, HasForm, PageCode, InlinedCode, FormIsShort}
use Rattle.tcl_compile.specs.Fragments.{Grown, Plain}
use Rattle.tcl_compile.specs.Literals.{spelled, AllLiteral}
use Rattle.tcl_compile.specs.Within.{WordsAreShort, ArgumentsAreShort, TextsAreShort}
use Rattle.tcl_compile.specs.declared.inlining.Form.{Form}
use Rattle.tcl_compile.specs.declared.inlining.Form.TheVariants as form
use Rattle.tcl_compile.proofs.Clauses.{others, shape_short}
use Rattle.tcl_compile.proofs.Emits.{Code, ext, join}
use Rattle.tcl_compile.proofs.Forks.{LedHere, forked}
use Rattle.tcl_compile.proofs.Guarded.{command_said, guarded, guarded_runs}
use Rattle.tcl_compile.proofs.Inlined.{set_runs, bump_runs}
use Rattle.tcl_compile.proofs.Turns.{behind_one, in_front}
use Rattle.tcl_compile.proofs.LiteralWords.{of_some, says, all_say, all_plain}

pub form_plain : (f : Form) (ws : List Shape) → HasForm f ws → Plain ws
form_plain f ws h = all_plain ws (name_of (command_of f) ∷ h.0) h.1

-- ---- the texts behind a command's name are shorter than the text that it stands in

texts_short : (n : ℕ) (ws : List Shape) (ts : List Text) → AllLiteral ws ts → WordsAreShort n ws → TextsAreShort n ts
texts_short n [] [] h k = tt
texts_short n [] (t ∷ ts) h k = absurd h
texts_short n (w ∷ ws) [] h k = absurd h
texts_short n (w ∷ ws) (t ∷ ts) h k = (of_some (λ (u : Text). length u ≤ n) (spelled w.pieces) t h.0.1 k.0, texts_short n ws ts h.1 k.1)

arguments_short : (n : ℕ) (name : Text) (ws : List Shape) (ts : List Text) → AllLiteral ws (name ∷ ts) → ArgumentsAreShort n ws → TextsAreShort n ts
arguments_short n name [] ts h k = absurd h
arguments_short n name (w ∷ ws) ts h k = texts_short n ws ts h.1 k

are_short : (n : ℕ) (f : Form) (ts : List Text) → IsForm f ts → TextsAreShort n ts → FormIsShort n f
are_short n form.Break ts e h = tt
are_short n form.Continue ts e h = tt
are_short n (form.Increment name) ts e h = tt
are_short n (form.Expr t) ts e h = (subst (TextsAreShort n) e h).0
are_short n (form.If clauses otherwise) ts e h = let a = shape_short n ts (others (map clause_of clauses.items) (option_map (λ t. chars t.now) otherwise)) h e.0 in (e.1, a.0, a.1)
are_short n (form.While test body) ts e h = let a = subst (TextsAreShort n) e h in (a.0, a.1.0)
are_short n (form.For w) ts e h = let a = subst (TextsAreShort n) e h in (a.0, a.1.0, a.1.1.0, a.1.1.1.0)

pub form_short : (n : ℕ) (f : Form) (ws : List Shape) → HasForm f ws → ArgumentsAreShort n ws → FormIsShort n f
form_short n f ws h k = are_short n f h.0 h.2 (arguments_short n (name_of (command_of f)) ws h.0 h.1 k)

-- ---- a variable's change

pub change_long : (k : Change) (name : Text) (ws : List Shape) → IsChange k name ws → 2 < length ws
change_long k name [] h = absurd h
change_long k name (w0 ∷ []) h = absurd h
change_long k name (w0 ∷ w1 ∷ []) h = absurd h
change_long k name (w0 ∷ w1 ∷ w2 ∷ ws) h = omega arith

-- what stands behind a guard is counted
guarded_turns : (p : Inlined) (c g : Code) → 0 < turns_of c → 0 < turns_of (guarded p c g)
guarded_turns p c g lt = omega (arith, lt, in_front c (Skip (length g) ∷ g), behind_one (Guard p (length c + 1)) (c ++ Skip (length g) ∷ g))

module _ (dialect : Dialect) where
  -- ---- a guard, and the call beside it

  pub grown_guarded : (m0 m1 m2 m3 m4 m5 m6 : Code) (f : Form) (ws : List Shape) → HasForm f ws → m1 ≡ m0 ++ Guard (command_of f) 0 ∷ [] → Grown (PageCode dialect f) m1 m2 → m3 ≡ m2 ++ Skip 0 ∷ [] → LedHere (length m0) m3 m4 → Grown (CommandCode dialect ws) m4 m5 → LedHere (length m2) m5 m6
      → Grown (InlinedCode dialect f ws) m0 m6
  grown_guarded m0 m1 m2 m3 m4 m5 m6 f ws h e g k l x n =
      let p = command_of f in (
        guarded p g.0 x.0,
        forked (Guard p 0) g.0 x.0 m0 m1 m2 m3 m4 m5 m6 e g.1 k l x.1 n,
        (λ q. guarded_turns p g.0 x.0 (g.2.0 q), guarded_runs dialect p h.0 _ g.0 x.0 (λ d s. command_said dialect d ws (name_of p ∷ h.0) s (all_say ws (name_of p ∷ h.0) h.1)) (g.2.1 h.0 h.2) x.2),
      )

  -- ---- a variable's change

  pub grown_changed : (k : Change) (name : Text) (ws : List Shape) (w : Shape) (m0 m1 m2 : Code) → IsChange k name ws → w ≡ get_or ws 2 w → 2 < length ws → Grown (WordCode dialect w.pieces) m0 m1
      → m2 ≡ m1 ++ Guard (inlined_of k) 2 ∷ changing k name ∷ Skip 3 ∷ Under (name_of (inlined_of k)) ∷ Under name ∷ Call 3 ∷ [] → Grown (CommandCode dialect ws) m0 m2
  grown_changed k name [] w m0 m1 m2 h e lt g n = absurd h
  grown_changed k name (w0 ∷ []) w m0 m1 m2 h e lt g n = absurd h
  grown_changed k name (w0 ∷ w1 ∷ []) w m0 m1 m2 h e lt g n = absurd h
  grown_changed k name (w0 ∷ w1 ∷ w2 ∷ x ∷ ws) w m0 m1 m2 h e lt g n = absurd h
  grown_changed change.Set name (w0 ∷ w1 ∷ w2 ∷ []) w m0 m1 m2 h e lt g n = (
    g.0 ++ Guard inlined.Set 2 ∷ Write name ∷ Skip 3 ∷ Under (name_of inlined.Set) ∷ Under name ∷ Call 3 ∷ [],
    (join (ext {m0 = m0} {c = g.0} g.1) (ext {m0 = m1} {c = Guard inlined.Set 2 ∷ Write name ∷ Skip 3 ∷ Under (name_of inlined.Set) ∷ Under name ∷ Call 3 ∷ []} n)).is,
    set_runs dialect name w0 w1 w2 g.0 (says w0 (name_of inlined.Set) h.0) (says w1 name h.1) h.2 (subst (λ (v : Shape). Does dialect g.0 (λ d. pieces_text d v.pieces)) e g.2),
  )
  grown_changed change.Incr name (w0 ∷ w1 ∷ w2 ∷ []) w m0 m1 m2 h e lt g n = (
    g.0 ++ Guard inlined.Incr 2 ∷ Bump name ∷ Skip 3 ∷ Under (name_of inlined.Incr) ∷ Under name ∷ Call 3 ∷ [],
    (join (ext {m0 = m0} {c = g.0} g.1) (ext {m0 = m1} {c = Guard inlined.Incr 2 ∷ Bump name ∷ Skip 3 ∷ Under (name_of inlined.Incr) ∷ Under name ∷ Call 3 ∷ []} n)).is,
    bump_runs dialect name w0 w1 w2 g.0 (says w0 (name_of inlined.Incr) h.0) (says w1 name h.1) h.2 (subst (λ (v : Shape). Does dialect g.0 (λ d. pieces_text d v.pieces)) e g.2),
  )
