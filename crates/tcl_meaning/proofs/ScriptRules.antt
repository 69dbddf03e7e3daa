-- The rules of scripts and words, as laws of runs: what an evaluator goes by from command to command, from word to word and from
-- piece to piece.
use Rattle.std.proofs.Common.{◌≡◌, ℕ, suc, ◌+◌, ◌-◌, ◌<◌, ◌≤◌, List, [], ◌∷◌, ◌++◌, refl, sym, ap, ◌∙◌, subst, arith, append_assoc, append-nil, cond, length, get_or, drop, add-one, drop-cons}
use Rattle.std.proofs.lemmas.Bool.{lt-ltb, le-ltb}
use Rattle.tcl_chars.specs.declared.numbers.Dialect.{Dialect}
use Rattle.tcl_pages.specs.Texts.{Text}
use Rattle.tcl_words.specs.First.{First, none, malformed, command, first_command, most_levels}
use Rattle.tcl_words.specs.Parts.{Part, parts_of, Shape}
use Rattle.tcl_words.specs.Syntax.{syntax_text}
use Rattle.tcl_words.specs.declared.fault.Syntax.{Syntax}
use Rattle.tcl_meaning.specs.declared.code.Code.{Code}
use Rattle.tcl_meaning.specs.declared.code.Code.TheVariants as code
use Rattle.tcl_meaning.specs.Beginnings.{channels_of, OutputsBegin}
use Rattle.tcl_meaning.specs.Completions.{Completion, failure, too_deep, code_now}
use Rattle.tcl_meaning.specs.Effects.{Prog, Got, Gives, Broke, on_got, exec, Now, paid, start}
use Rattle.tcl_meaning.specs.Script.{most_depth, plan, by_first, sequence, rest_by, run_command, with_words, Run}
use Rattle.tcl_meaning.specs.State.{State, with_units, remains}
use Rattle.tcl_meaning.specs.Substitution.{piece_text, index_text, pieces_text, expanded, words_text}
use Rattle.tcl_meaning.specs.Tasks.{Task, Script}
use Rattle.tcl_meaning.specs.Value.{Value, Has, ◌>>=◌, give, behind}
use Rattle.tcl_meaning.proofs.Reaching.{on_got_give, Reaches, reach_bind, bind_bind, bind_same, bind_give}
use Rattle.tcl_meaning.proofs.Runs.{IsOnward, exec_bind, outcome_goes, outcome_law}

-- a list from a place on, by its first element
pub drop_here : {A : Type 0} (xs : List A) (i : ℕ) (x : A) → i < length xs → x ≡ get_or xs i x → drop i xs ≡ x ∷ drop (i + 1) xs
drop_here xs i x h e = rw (add-one, drop-cons xs i x h) (ap (λ y. y ∷ drop (suc i) xs) (sym e))

-- a state with a unit less
abbrev pub spent : State → State
spent s = with_units (s.units - 1) s

-- an index is substituted as a word is
pub index_pieces : (d : ℕ) (ps : List Part) → index_text d (parts_of ps) ≡ pieces_text d ps
index_pieces d [] = refl
index_pieces d (p ∷ ps) = ap (λ (q : Prog Task (Value Text)). piece_text d p >>= (λ t. q >>= (λ more. give (t ++ more)))) (index_pieces d ps)

-- one word, and the words that it gives
abbrev pub shape_words : ℕ → Shape → Prog Task (Value (List Text))
shape_words d w = pieces_text d w.pieces >>= expanded w.expands

-- the words that are left, after others
abbrev pub words_after : ℕ → List Text → List Shape → Prog Task (Value (List Text))
words_after d done ws = words_text d ws >>= (λ more. give (done ++ more))

module _ (dialect : Dialect) where
  abbrev run : Task → State → Got Completion
  run = Run dialect

  pub run_onward : IsOnward (Run dialect)
  run_onward = outcome_goes (plan dialect)

  -- ---- pieces, from left to right

  pub pieces_start : (d : ℕ) (ps : List Part) (s : State) → exec (Run dialect) (pieces_text d ps) s ≡ exec (Run dialect) (behind [] (pieces_text d ps)) s
  pieces_start d ps s = sym (bind_give (Run dialect) (pieces_text d ps) (λ b. b) (λ b. refl) s)

  pub pieces_next : (d : ℕ) (done : Text) (p : Part) (ps : List Part) (s : State) → exec (Run dialect) (behind done (pieces_text d (p ∷ ps))) s ≡ exec (Run dialect) (behind done (piece_text d p) >>= (λ t. behind t (pieces_text d ps))) s
  pieces_next d done p ps s =
      bind_bind (Run dialect) (piece_text d p) (λ t. pieces_text d ps >>= (λ more. give (t ++ more))) (λ b. give (done ++ b)) s
      ∙ bind_same (Run dialect) (piece_text d p) (λ t. (pieces_text d ps >>= (λ more. give (t ++ more))) >>= (λ b. give (done ++ b))) (λ t. behind (done ++ t) (pieces_text d ps))
      (λ t u. bind_bind (Run dialect) (pieces_text d ps) (λ more. give (t ++ more)) (λ b. give (done ++ b)) u
      ∙ bind_same (Run dialect) (pieces_text d ps) (λ more. give (done ++ (t ++ more))) (λ more. give ((done ++ t) ++ more)) (λ more v. ap (λ x. Gives (Has x) v) (sym (append_assoc done t more))) u) s
      ∙ sym (bind_bind (Run dialect) (piece_text d p) (λ t. give (done ++ t)) (λ t. behind t (pieces_text d ps)) s)

  pub pieces_end : (d : ℕ) (done : Text) (s : State) → exec (Run dialect) (behind done (pieces_text d [])) s ≡ Gives (Has done) s
  pieces_end d done s = ap (λ x. Gives (Has x) s) (append-nil done)

  -- what is left of a word, at its next piece
  pub pieces_at : {got : Got (Value Text)} (d : ℕ) (done : Text) (ps : List Part) (i : ℕ) (x : Part) (s : State) → got ≡ exec (Run dialect) (behind done (pieces_text d (drop i ps))) s → i < length ps → x ≡ get_or ps i x
      → Reaches (Run dialect) got (behind done (piece_text d x) >>= (λ t. behind t (pieces_text d (drop (i + 1) ps)))) s
  pieces_at d done ps i x s r h e = record { same = r ∙ ap (λ l. exec (Run dialect) (behind done (pieces_text d l)) s) (drop_here ps i x h e) ∙ pieces_next d done x (drop (i + 1) ps) s }

  -- ---- words, from left to right

  pub words_start : (d : ℕ) (ws : List Shape) (s : State) → exec (Run dialect) (words_text d ws) s ≡ exec (Run dialect) (words_after d [] ws) s
  words_start d ws s = sym (bind_give (Run dialect) (words_text d ws) (λ b. b) (λ b. refl) s)

  pub words_next : (d : ℕ) (done : List Text) (w : Shape) (ws : List Shape) (s : State) → exec (Run dialect) (words_after d done (w ∷ ws)) s ≡ exec (Run dialect) (shape_words d w >>= (λ new. words_after d (done ++ new) ws)) s
  words_next d done w ws s =
      bind_bind (Run dialect) (pieces_text d w.pieces) (λ t. expanded w.expands t >>= (λ new. words_text d ws >>= (λ more. give (new ++ more)))) (λ b. give (done ++ b)) s
      ∙ bind_same (Run dialect) (pieces_text d w.pieces) (λ t. (expanded w.expands t >>= (λ new. words_text d ws >>= (λ more. give (new ++ more)))) >>= (λ b. give (done ++ b))) (λ t. expanded w.expands t >>= (λ new. words_after d (done ++ new) ws))
      (λ t u. bind_bind (Run dialect) (expanded w.expands t) (λ new. words_text d ws >>= (λ more. give (new ++ more))) (λ b. give (done ++ b)) u
      ∙ bind_same (Run dialect) (expanded w.expands t) (λ new. (words_text d ws >>= (λ more. give (new ++ more))) >>= (λ b. give (done ++ b))) (λ new. words_after d (done ++ new) ws)
      (λ new v. bind_bind (Run dialect) (words_text d ws) (λ more. give (new ++ more)) (λ b. give (done ++ b)) v
      ∙ bind_same (Run dialect) (words_text d ws) (λ more. give (done ++ (new ++ more))) (λ more. give ((done ++ new) ++ more)) (λ more x. ap (λ y. Gives (Has y) x) (sym (append_assoc done new more))) v) u) s
      ∙ sym (bind_bind (Run dialect) (pieces_text d w.pieces) (expanded w.expands) (λ new. words_after d (done ++ new) ws) s)

  pub words_end : (d : ℕ) (done : List Text) (s : State) → exec (Run dialect) (words_after d done []) s ≡ Gives (Has done) s
  words_end d done s = ap (λ x. Gives (Has x) s) (append-nil done)

  pub words_at : {got : Got (Value (List Text))} (d : ℕ) (done : List Text) (ws : List Shape) (i : ℕ) (x : Shape) (s : State) → got ≡ exec (Run dialect) (words_after d done (drop i ws)) s → i < length ws → x ≡ get_or ws i x
      → Reaches (Run dialect) got (shape_words d x >>= (λ new. words_after d (done ++ new) (drop (i + 1) ws))) s
  words_at d done ws i x s r h e = record { same = r ∙ ap (λ l. exec (Run dialect) (words_after d done l) s) (drop_here ws i x h e) ∙ words_next d done x (drop (i + 1) ws) s }

  -- ---- scripts

  pub begins_run : {got : Got Completion} (task : Task) (s : State) → got ≡ Run dialect task s → OutputsBegin s.channels (channels_of got)
  begins_run task s e = subst (λ g. OutputsBegin s.channels (channels_of g)) (sym e) (run_onward task s).adds

  module _ (d : ℕ) (last : Completion) (t : Text) (s : State) where
    pub script_deep : most_depth < d → Run dialect (Script d last t) s ≡ Gives too_deep s
    unfolding plan
    script_deep h = outcome_law (plan dialect) (Script d last t) s ∙ ap (λ b. start (Run dialect) (cond b (Now too_deep) (by_first dialect d last (first_command most_levels t))) s) (lt-ltb most_depth d h)

    pub script_plan : (f : First) → d ≤ most_depth → first_command most_levels t ≡ f → Run dialect (Script d last t) s ≡ start (Run dialect) (by_first dialect d last f) s
    unfolding plan
    script_plan f h e =
        outcome_law (plan dialect) (Script d last t) s
        ∙ ap (λ b. start (Run dialect) (cond b (Now too_deep) (by_first dialect d last (first_command most_levels t))) s) (le-ltb most_depth d h)
        ∙ ap (λ g. start (Run dialect) (by_first dialect d last g) s) e

    pub script_end : (rest : Text) → d ≤ most_depth → first_command most_levels t ≡ none rest → Run dialect (Script d last t) s ≡ Gives last s
    script_end rest h e = script_plan (none rest) h e

    pub script_bad : (m : Syntax) → d ≤ most_depth → first_command most_levels t ≡ malformed m → Run dialect (Script d last t) s ≡ Gives (failure (syntax_text m)) s
    script_bad m h e = script_plan (malformed m) h e

    pub script_broke : (ws : List Shape) (rest : Text) → d ≤ most_depth → first_command most_levels t ≡ command ws rest → s.units ≡ 0 → Run dialect (Script d last t) s ≡ Broke (remains s)
    script_broke ws rest h e z = script_plan (command ws rest) h e ∙ ap (paid (Run dialect) (sequence dialect d ws rest) s) z

    pub script_paid : {got : Got Completion} (ws : List Shape) (rest : Text) → d ≤ most_depth → first_command most_levels t ≡ command ws rest → 0 < s.units → got ≡ Run dialect (Script d last t) s → Reaches (Run dialect) got (sequence dialect d ws rest) (spent s)
    script_paid ws rest h e n r =
        let z : s.units ≡ suc (s.units - 1) = omega arith in
        record { same = r ∙ script_plan (command ws rest) h e ∙ ap (paid (Run dialect) (sequence dialect d ws rest) s) z }

  -- a script goes on after a command that was ok
  pub sequence_next : {got : Got Completion} (d : ℕ) (ws : List Shape) (rest : Text) {s t : State} (c : Completion) → Reaches (Run dialect) got (sequence dialect d ws rest) s → exec (Run dialect) (run_command dialect d ws) s ≡ Gives c t → code_now c ≡ code.Ok → got ≡ Run dialect (Script d c rest) t
  sequence_next d ws rest {t = t} c r e n =
      (reach_bind (Run dialect) (run_command dialect d ws) (λ c. rest_by d rest (code_now c) c) c r e).same
      ∙ ap (λ k. exec (Run dialect) (rest_by d rest k c) t) n
      ∙ on_got_give (Run dialect (Script d c rest) t)

  -- and ends with any other
  ends_by : (d : ℕ) (rest : Text) (k : Code) (c : Completion) (t : State) → (k ≡ code.Ok → ⊥) → exec (Run dialect) (rest_by d rest k c) t ≡ Gives c t
  ends_by d rest code.Ok c t h = absurd (h refl)
  ends_by d rest code.Error c t h = refl
  ends_by d rest code.Return c t h = refl
  ends_by d rest code.Break c t h = refl
  ends_by d rest code.Continue c t h = refl
  ends_by d rest (code.Other z) c t h = refl

  pub sequence_ends : {got : Got Completion} (d : ℕ) (ws : List Shape) (rest : Text) {s t : State} (c : Completion) → Reaches (Run dialect) got (sequence dialect d ws rest) s → exec (Run dialect) (run_command dialect d ws) s ≡ Gives c t → (code_now c ≡ code.Ok → ⊥) → got ≡ Gives c t
  sequence_ends d ws rest {t = t} c r e n =
      (reach_bind (Run dialect) (run_command dialect d ws) (λ c. rest_by d rest (code_now c) c) c r e).same ∙ ends_by d rest (code_now c) c t n

  -- a command is what its words come to, and then its page
  pub command_value : (d : ℕ) (ws : List Shape) (s t : State) (x : Value (List Text)) → exec (Run dialect) (words_text d ws) s ≡ Gives x t → exec (Run dialect) (run_command dialect d ws) s ≡ exec (Run dialect) (with_words dialect d x) t
  command_value d ws s t x e = exec_bind (Run dialect) (words_text d ws) (with_words dialect d) s ∙ ap (λ g. on_got g (λ a u. exec (Run dialect) (with_words dialect d a) u)) e
