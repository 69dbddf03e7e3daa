-- `return` of one word, inlined.
use Rattle.std.proofs.Common.{◌≡◌, ℕ, ◌+◌, ◌-◌, List, [], ◌∷◌, ◌++◌, get_or, refl, sym, ap, ◌∙◌, arith}
use Rattle.tcl_chars.specs.declared.numbers.Dialect.{Dialect}
use Rattle.tcl_words.specs.Parts.{Shape}
use Rattle.tcl_pages.specs.Texts.{Text}
use Rattle.tcl_meaning.specs.declared.code.Code.TheVariants as ending
use Rattle.tcl_meaning.specs.Asking.{asked, all_answered, answered}
use Rattle.tcl_meaning.specs.CodePages.{return_page}
use Rattle.tcl_meaning.specs.Codes.{return_completion}
use Rattle.tcl_meaning.specs.Effects.{Gives, exec, ◌>>=◌ as andthen}
use Rattle.tcl_meaning.specs.Pages.{invoked, page_asks}
use Rattle.tcl_meaning.specs.Script.{Run, run_command, page_in}
use Rattle.tcl_meaning.specs.State.{State}
use Rattle.tcl_meaning.specs.Substitution.{pieces_text}
use Rattle.tcl_code.specs.Guards.{name_of}
use Rattle.tcl_code.specs.Instructions.{Under, Call, Return}
use Rattle.tcl_code.specs.Machine.{with_text, with_result, result_at, spot}
use Rattle.tcl_code.specs.Valid.{shape}
use Rattle.tcl_code.specs.declared.inlined.Inlined.TheVariants as inlined
use Rattle.tcl_code.proofs.Shapes.{fits_one, fits_stop, fits_joined}
use Rattle.tcl_code.proofs.Steps.{one_done, final_done, moved_done, same_done}
use Rattle.tcl_compile.specs.Emitted.{CommandCode, WordCode}
use Rattle.tcl_compile.specs.Forms.{page_does}
use Rattle.tcl_compile.specs.Fragments.{Grown}
use Rattle.tcl_compile.specs.Inlining.{Uses}
use Rattle.tcl_compile.specs.Returns.{IsReturn, returning}
use Rattle.tcl_compile.proofs.Commands.{words_one, command_is}
use Rattle.tcl_compile.proofs.Emits.{Code, ext, join}
use Rattle.tcl_compile.proofs.Failing.{finishing}
use Rattle.tcl_compile.proofs.Guarded.{said_next, word_runs}
use Rattle.tcl_compile.proofs.Inlined.{broken}
use Rattle.tcl_compile.proofs.LiteralWords.{says}

module _ (dialect : Dialect) where
  return_is : (t : Text) (d : ℕ) (s : State) → exec (Run dialect) (page_does dialect inlined.Return (t ∷ []) d) s ≡ Gives (return_completion ending.Ok 1 t []) s
  unfolding page_asks return_page asked all_answered answered
  return_is t d s = refl

  return_uses : Uses dialect 0 0 (Return ∷ []) (λ d t. page_does dialect inlined.Return (t ∷ []) d)
  return_uses = record {
    from = λ code at t last stack d s has.
        same_done dialect code (sym (return_is t d s))
        (final_done dialect code {os = stack.loops} {p = spot at (with_text t (with_result last stack)) d} {s = s} {r = result_at (at + 1) stack d} {g = Gives (return_completion ending.Ok 1 t []) s} Return has.0
        (λ next. broken dialect next stack.loops (result_at (at + 1) stack d) (return_completion ending.Ok 1 t []) s (λ z. cc)));
    fits = λ h l d p o. fits_stop Return (shape (h + 1) l d (p + 0) o) (shape h l d (p + 0) o) (omega arith) refl;
  }

  called_uses : Uses dialect 1 0 (Under (name_of inlined.Return) ∷ Call 2 ∷ []) (λ d t. page_in dialect d (invoked dialect (name_of inlined.Return ∷ t ∷ [])))
  called_uses = record {
    from = λ code at t last stack d s has.
        one_done dialect code (Under (name_of inlined.Return)) has.0 refl
        (moved_done dialect code (omega arith) (final_done dialect code {os = stack.loops} {p = spot (at + 1) (with_text t (with_text (name_of inlined.Return) (with_result last stack))) d} {s = s} {r = result_at (at + 1 + 1) stack d} (Call 2) has.1.0 (λ next. refl)));
    fits = λ h l d q o.
        fits_joined (Under (name_of inlined.Return) ∷ []) (Call 2 ∷ []) (shape (h + 1) l d (q + 1) o) (shape (h + 2) l d (q + 1) o) (shape h l d (q + 0) o)
        (fits_one (Under (name_of inlined.Return)) (shape (h + 1) l d (q + 1) o) (shape (h + 2) l d (q + 1) o) _ (omega arith) refl (ap (λ n. shape n l d (q + 1) o) (omega arith)))
        (fits_one (Call 2) (shape (h + 2) l d (q + 1) o) (shape h l d (q + 0) o) _ (omega arith, omega arith) refl (ap (λ n. shape n l d (q + 1 - 1) o) (omega arith) ∙ ap (λ n. shape h l d n o) (omega arith)));
  }

  word_is : (ws : List Shape) (w : Shape) (d : ℕ) (s : State) → IsReturn ws → w ≡ get_or ws 1 w
      → exec (Run dialect) (run_command dialect d ws) s ≡ exec (Run dialect) (andthen (pieces_text d w.pieces) (finishing (λ t. page_in dialect d (invoked dialect (name_of inlined.Return ∷ t ∷ []))))) s
  word_is [] w d s h e = absurd h
  word_is (w0 ∷ []) w d s h e = absurd h
  word_is (w0 ∷ v ∷ x ∷ ws) w d s h e = absurd h
  word_is (w0 ∷ v ∷ []) w d s h e =
      let name = name_of inlined.Return in
      sym (command_is dialect d (w0 ∷ v ∷ []) s)
      ∙ said_next dialect d [] w0 (v ∷ []) name s (says w0 name h.0)
      ∙ words_one dialect d (name ∷ []) v [] s h.1
      ∙ ap (λ (z : Shape). exec (Run dialect) (andthen (pieces_text d z.pieces) (finishing (λ t. page_in dialect d (invoked dialect (name ∷ t ∷ []))))) s) (sym e)

  pub grown_return : (ws : List Shape) (w : Shape) (m0 m1 m2 : Code) → IsReturn ws → w ≡ get_or ws 1 w → Grown (WordCode dialect w.pieces) m0 m1 → m2 ≡ m1 ++ returning → Grown (CommandCode dialect ws) m0 m2
  grown_return ws w m0 m1 m2 is e g h = (
    g.0 ++ returning,
    (join (ext {m0 = m0} {c = g.0} g.1) (ext {m0 = m1} {c = returning} h)).is,
    word_runs dialect inlined.Return (λ t. t ∷ []) ws w g.0 (Return ∷ []) (Under (name_of inlined.Return) ∷ Call 2 ∷ []) (λ d s. word_is ws w d s is e) g.2 return_uses called_uses,
  )
