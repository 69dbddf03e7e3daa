-- The words behind the body of a try(n), handler after handler.
use Rattle.std.proofs.Common.{◌≡◌, ◌<◌, ◌≤◌, ◌-◌, zero, suc, List, [], ◌∷◌, ◌++◌, length, drop, map, get_or, Ok, Err, sym, ap, ◌∙◌, refl, arith}
use Rattle.std.specs.Prelude.{ℕ, Option, false, not, if◌then◌else◌}
use Rattle.tcl_chars.specs.declared.numbers.Dialect.{Dialect}
use Rattle.tcl_control.specs.Clauses.{next_handler, last_words, with_handlers}
use Rattle.tcl_meaning.specs.Handlers.{Keyword, keyword, handler_of, handlers_of, with_handler, no_handlers, last_runs, dash_message, dash_checked, try_shape}
use Rattle.tcl_meaning.specs.Shapes.{is_dash}
use Rattle.tcl_meaning.specs.Tasks as tasks
use Rattle.tcl_pages.specs.Answers.{Answer, ◌>>=◌}
use Rattle.tcl_pages.specs.Texts.{Text}
use Rattle.tcl_steps.specs.Views as views
use Rattle.tcl_steps.specs.declared.step.Handler.{Handler}

module _ (dialect : Dialect) where
  behind : (r : Answer Keyword) (f : Keyword → Answer tasks.Handler) (g : tasks.Handler → Answer tasks.Handlers) → (r >>= λ k. f k >>= g) ≡ ((r >>= f) >>= g)
  behind (Ok k) f g = refl
  behind (Err m) f g = refl

  clause_step : (ws : List Text) → 3 < length ws → handlers_of dialect ws ≡ (next_handler dialect ws >>= λ h. with_handler h (handlers_of dialect (drop 4 ws)))
  clause_step [] h = absurd (omega arith)
  clause_step (a ∷ []) h = absurd (omega arith)
  clause_step (a ∷ b ∷ []) h = absurd (omega arith)
  clause_step (a ∷ b ∷ c ∷ []) h = absurd (omega arith)
  clause_step (a ∷ b ∷ c ∷ d ∷ ws) h = behind (keyword a) (λ k. handler_of dialect k b c d) (λ h. with_handler h (handlers_of dialect ws))

  few_are : (ws : List Text) → length ws ≤ 3 → handlers_of dialect ws ≡ last_words ws
  few_are [] h = refl
  few_are (a ∷ []) h = refl
  few_are (a ∷ b ∷ []) h = refl
  few_are (a ∷ b ∷ c ∷ []) h = refl
  few_are (a ∷ b ∷ c ∷ d ∷ ws) h = absurd (omega arith)

with_last : (cs : List Handler) (c : Handler) (r : Answer tasks.Handlers) → with_handlers (map views.handler_of (cs ++ c ∷ [])) r ≡ with_handlers (map views.handler_of cs) (with_handler (views.handler_of c) r)
with_last [] c r = refl
with_last (d ∷ cs) c r = ap (with_handler (views.handler_of d)) (with_last cs c r)

with_fault : (hs : List tasks.Handler) (m : Text) → with_handlers hs (Err m) ≡ Err m
with_fault [] m = refl
with_fault (h ∷ hs) m = ap (with_handler h) (with_fault hs m)

with_all : (hs : List tasks.Handler) (finally : Option Text) → with_handlers hs (Ok (no_handlers finally)) ≡ Ok (record { clauses = hs; finally = finally })
with_all [] finally = refl
with_all (h ∷ hs) finally = ap (with_handler h) (with_all hs finally)

module _ (dialect : Dialect) (cs : List Handler) (ws : List Text) where
  pub clauses_more : (c : Handler) → 3 < length ws → next_handler dialect ws ≡ Ok (views.handler_of c)
      → with_handlers (map views.handler_of (cs ++ c ∷ [])) (handlers_of dialect (drop 4 ws)) ≡ with_handlers (map views.handler_of cs) (handlers_of dialect ws)
  clauses_more c n e =
      with_last cs c (handlers_of dialect (drop 4 ws))
      ∙ ap (with_handlers (map views.handler_of cs)) (sym (clause_step dialect ws n ∙ ap (λ r. r >>= λ h. with_handler h (handlers_of dialect (drop 4 ws))) e))

  pub clauses_bad : (m : Text) → 3 < length ws → next_handler dialect ws ≡ Err m → with_handlers (map views.handler_of cs) (handlers_of dialect ws) ≡ Err m
  clauses_bad m n e =
      ap (with_handlers (map views.handler_of cs)) (clause_step dialect ws n ∙ ap (λ r. r >>= λ h. with_handler h (handlers_of dialect (drop 4 ws))) e) ∙ with_fault (map views.handler_of cs) m

  pub clauses_end : (finally : Option Text) → length ws ≤ 3 → last_words ws ≡ Ok (no_handlers finally)
      → with_handlers (map views.handler_of cs) (handlers_of dialect ws) ≡ Ok (record { clauses = map views.handler_of cs; finally = finally })
  clauses_end finally n e = ap (with_handlers (map views.handler_of cs)) (few_are dialect ws n ∙ e) ∙ with_all (map views.handler_of cs) finally

  pub clauses_end_bad : (m : Text) → length ws ≤ 3 → last_words ws ≡ Err m → with_handlers (map views.handler_of cs) (handlers_of dialect ws) ≡ Err m
  clauses_end_bad m n e = ap (with_handlers (map views.handler_of cs)) (few_are dialect ws n ∙ e) ∙ with_fault (map views.handler_of cs) m

-- the script of the last one
last_of : (cs : List Handler) (n : ℕ) (c : Handler) → length cs ≡ suc n → c ≡ get_or cs n c → last_runs (map views.handler_of cs) ≡ not (is_dash c.script)
last_of [] n c h e = absurd (omega arith)
last_of (d ∷ []) zero c h e = ap (λ g. not (is_dash g.script)) (sym e)
last_of (d ∷ []) (suc n) c h e = absurd (omega arith)
last_of (d ∷ g ∷ cs) zero c h e = absurd (omega arith)
last_of (d ∷ g ∷ cs) (suc n) c h e = last_of (g ∷ cs) n c (omega arith) e

pub last_at : (cs : List Handler) (c : Handler) → 1 ≤ length cs → c ≡ get_or cs (length cs - 1) c → last_runs (map views.handler_of cs) ≡ not (is_dash c.script)
last_at cs c h e = last_of cs (length cs - 1) c (omega (arith, h)) e

pub dash_last : (dialect : Dialect) (ws : List Text) (hs : tasks.Handlers) (m : Text) → handlers_of dialect ws ≡ Ok hs → last_runs hs.clauses ≡ false → m ≡ dash_message → try_shape dialect ws ≡ Err m
dash_last dialect ws hs m e f g = ap (λ r. r >>= dash_checked) e ∙ ap (λ b. if b then Ok hs else Err dash_message) f ∙ ap Err (sym g)
