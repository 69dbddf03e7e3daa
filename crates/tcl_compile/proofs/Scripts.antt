-- The commands of a script, emitted one after another.
use Rattle.std.proofs.Common.{◌≡◌, ◌<◌, Bool, true, List, [], ◌∷◌, ◌++◌, refl, sym, subst, append-nil, arith}
use Rattle.tcl_chars.specs.declared.numbers.Dialect.{Dialect}
use Rattle.tcl_words.specs.First.{none, malformed, command, first_command, most_levels}
use Rattle.tcl_words.specs.Parts.{Shape}
use Rattle.tcl_words.specs.Syntax.{syntax_text}
use Rattle.tcl_words.specs.declared.fault.Syntax.{Syntax}
use Rattle.tcl_pages.specs.Texts.{Text}
use Rattle.tcl_code.specs.Instructions.{Spend, Raise}
use Rattle.tcl_code.specs.Turns.{turns_of}
use Rattle.tcl_compile.specs.Emitted.{CommandCode, ScriptCode}
use Rattle.tcl_compile.specs.Fragments.{Grown, Leads}
use Rattle.tcl_compile.specs.Whiles.{IsWhile, CommandMade, ScriptMade}
use Rattle.tcl_compile.proofs.Commands.{follows_end, follows_bad, follows_command}
use Rattle.tcl_compile.proofs.Emits.{Code, ext, join, leads_on, leads_end}
use Rattle.tcl_compile.proofs.Turns.{behind_one}
use Rattle.tcl_compile.proofs.Whiles.{turns_command, turns_none, turns_malformed}

module _ (dialect : Dialect) (outermost : Bool) where
  -- what is emitted, without its turns
  pub made_code : (t : Text) (old new : Code) → Grown (ScriptMade dialect outermost t) old new → Grown (ScriptCode dialect t) old new
  made_code t old new g = (g.0, g.1, g.2.0)

  -- of a command that needs no turn
  pub made_without : (ws : List Shape) (old new : Code) → (outermost ≡ true → IsWhile ws → ⊥) → Grown (CommandCode dialect ws) old new → Grown (CommandMade dialect outermost ws) old new
  made_without ws old new h g = (g.0, g.1, (g.2, λ o w. absurd (h o w)))

  pub script_leads : (t now rest : Text) (ws : List Shape) (old c0 c1 c2 : Code) → first_command most_levels now ≡ command ws rest → Leads (ScriptMade dialect outermost now) (ScriptMade dialect outermost t) old c0 → c1 ≡ c0 ++ Spend ∷ [] → Grown (CommandMade dialect outermost ws) c1 c2
      → Leads (ScriptMade dialect outermost rest) (ScriptMade dialect outermost t) old c2
  script_leads t now rest ws old c0 c1 c2 e l e1 g =
      leads_on (ScriptMade dialect outermost now) (ScriptMade dialect outermost rest) Paid (ScriptMade dialect outermost t) old c0 c2
      (λ c more h k. subst (λ x. ScriptMade dialect outermost now (x ++ more)) (sym h.1) (follows_command dialect now ws rest h.0 more e h.2.0 k.0, λ o. turns_command now rest ws (Spend ∷ h.0) more e (λ w. paid_turns h.0 (h.2.1 o w)) (k.1 o))) l
      (Spend ∷ g.0, (join (ext {m0 = c0} {c = Spend ∷ []} e1) (ext {m0 = c1} {c = g.0} g.1)).is, (g.0, refl, g.2))
    where
      Paid : Code → Type 0
      Paid c = (b : Code) × (c ≡ Spend ∷ b) × CommandMade dialect outermost ws b

      paid_turns : (b : Code) → 0 < turns_of b → 0 < turns_of (Spend ∷ b)
      paid_turns b lt = omega (arith, lt, behind_one Spend b)

  pub script_ends : (t now rest : Text) (old new : Code) → first_command most_levels now ≡ none rest → Leads (ScriptMade dialect outermost now) (ScriptMade dialect outermost t) old new → Grown (ScriptMade dialect outermost t) old new
  script_ends t now rest old new e l = leads_end (ScriptMade dialect outermost now) (ScriptMade dialect outermost t) old new new l ([], sym (append-nil new), (follows_end dialect now rest e, λ o. turns_none now rest [] e))

  pub script_fails : (t now : Text) (m : Syntax) (x : Text) (old c0 c1 : Code) → first_command most_levels now ≡ malformed m → x ≡ syntax_text m → Leads (ScriptMade dialect outermost now) (ScriptMade dialect outermost t) old c0 → c1 ≡ c0 ++ Raise x ∷ [] → Grown (ScriptMade dialect outermost t) old c1
  script_fails t now m x old c0 c1 e f l e1 =
      leads_end (ScriptMade dialect outermost now) (ScriptMade dialect outermost t) old c0 c1 l (Raise x ∷ [], e1, (subst (λ y. ScriptCode dialect now (Raise y ∷ [])) (sym f) (follows_bad dialect now m e), λ o. turns_malformed now m (Raise x ∷ []) e))
