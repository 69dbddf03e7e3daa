-- Parts that are emitted one after another.
use Rattle.std.proofs.Common.{◌≡◌, ℕ, zero, suc, ◌+◌, ◌<◌, ◌≤◌, false, List, [], ◌∷◌, ◌++◌, length, get_or, drop, refl, sym, ap, ◌∙◌, subst, arith, append_assoc, append-nil}
use Rattle.tcl_chars.specs.declared.numbers.Dialect.{Dialect}
use Rattle.tcl_words.specs.Parts.{Part, text, escape, var, elem_, bracket, parts_of, Stretch, Shape}
use Rattle.tcl_pages.specs.Texts.{Text}
use Rattle.tcl_code.specs.Instructions.{Instruction, Push, Read, ReadElement, Join, Enter, Leave, Call, Gather, CallGathered}
use Rattle.tcl_compile.specs.Emitted.{PieceCode, WordCode, BracketCode, CommandCode, ScriptCode, PiecesLeft, WordsLeft, GatheredLeft}
use Rattle.tcl_compile.specs.Fragments.{adding, Plain, Grown, Leads}
use Rattle.tcl_compile.proofs.Pieces.{push_does, read_does, element_does, index_does, bracket_does, joins_end, joins_next, word_does, piece_does}
use Rattle.tcl_compile.proofs.Commands.{calls_end, calls_next, command_does, gathers_end, gathers_next, gathered_does}
use Rattle.tcl_meaning.proofs.ScriptRules.{drop_here}

abbrev pub Code : Type 0
Code = List Instruction

-- m1 is m0 and then c
pub record Ext (m0 c m1 : Code) : Type 0 where
  pub is : m1 ≡ m0 ++ c

pub ext : {m0 c m1 : Code} → m1 ≡ m0 ++ c → Ext m0 c m1
ext e = record { is = e }

pub join : {m0 m1 m2 c1 c2 : Code} → Ext m0 c1 m1 → Ext m1 c2 m2 → Ext m0 (c1 ++ c2) m2
join {m0} {m1} {m2} {c1} {c2} e f = record { is = f.is ∙ ap (λ l. l ++ c2) e.is ∙ append_assoc m0 c1 c2 }

-- nothing of a list from its end on
pub drop_end : {A : Type 0} (xs : List A) (i : ℕ) → length xs ≤ i → drop i xs ≡ []
drop_end [] zero h = refl
drop_end [] (suc i) h = refl
drop_end (x ∷ xs) zero h = absurd (omega arith)
drop_end (x ∷ xs) (suc i) h = drop_end xs i (omega arith)

-- code that leads on, by the part of one more
pub leads_on : (R S P Q : Code → Type 0) (old mid new : Code) → ((c more : Code) → P c → S more → R (c ++ more)) → Leads R Q old mid → Grown P mid new → Leads S Q old new
leads_on R S P Q old mid new k l g = (
  l.0 ++ g.0,
  (join (ext {m0 = old} {c = l.0} l.1) (ext {m0 = mid} {c = g.0} g.1)).is,
  λ more h. subst Q (sym (append_assoc l.0 g.0 more)) (l.2 (g.0 ++ more) (k g.0 more g.2 h)),
)

pub leads_end : (R Q : Code → Type 0) (old mid new : Code) → Leads R Q old mid → Grown R mid new → Grown Q old new
leads_end R Q old mid new l g = (l.0 ++ g.0, (join (ext {m0 = old} {c = l.0} l.1) (ext {m0 = mid} {c = g.0} g.1)).is, l.2 g.0 g.2)

pub leads_start : (Q : Code → Type 0) (old : Code) → Leads Q Q old old
leads_start Q old = ([], sym (append-nil old), λ more h. h)

-- ---- words without `{*}`

pub plain_end : (ws : List Shape) (i : ℕ) → length ws ≤ i → (Plain (drop i ws) → Plain ws) → Plain ws
plain_end ws i le h = h (subst Plain (sym (drop_end ws i le)) tt)

pub plain_next : (ws : List Shape) (i : ℕ) (w : Shape) → i < length ws → w ≡ get_or ws i w → w.expands ≡ false → (Plain (drop i ws) → Plain ws) → Plain (drop (i + 1) ws) → Plain ws
plain_next ws i w lt e p h k = h (subst Plain (sym (drop_here ws i w lt e)) (p, k))

pub plain_at : (ws : List Shape) (i : ℕ) (w : Shape) → Plain ws → i < length ws → w ≡ get_or ws i w → w.expands ≡ false
plain_at [] i w h lt e = absurd (omega arith)
plain_at (v ∷ ws) zero w h lt e = ap (λ (x : Shape). x.expands) e ∙ h.0
plain_at (v ∷ ws) (suc i) w h lt e = plain_at ws i w h.1 (omega arith) e

module _ (dialect : Dialect) where
  -- ---- pieces

  pub grown_text : (old new : Code) (p : Part) (s : Stretch) → p ≡ text s → new ≡ old ++ Push s.text ∷ [] → Grown (PieceCode dialect p) old new
  grown_text old new p s e h = (Push s.text ∷ [], h, subst (λ q. PieceCode dialect q (Push s.text ∷ [])) (sym e) (push_does dialect s.text))

  pub grown_escape : (old new : Code) (p : Part) (s : Stretch) (c : ℕ) → p ≡ escape s c → new ≡ old ++ Push (c ∷ []) ∷ [] → Grown (PieceCode dialect p) old new
  grown_escape old new p s c e h = (Push (c ∷ []) ∷ [], h, subst (λ q. PieceCode dialect q (Push (c ∷ []) ∷ [])) (sym e) (push_does dialect (c ∷ [])))

  pub grown_var : (old new : Code) (p : Part) (s name : Stretch) → p ≡ var s name → new ≡ old ++ Read name.text ∷ [] → Grown (PieceCode dialect p) old new
  grown_var old new p s name e h = (Read name.text ∷ [], h, subst (λ q. PieceCode dialect q (Read name.text ∷ [])) (sym e) (read_does dialect name.text))

  pub grown_elem : (old mid new : Code) (p : Part) (s name : Stretch) (ps : List Part) → p ≡ elem_ s name (parts_of ps) → Grown (WordCode dialect ps) old mid → new ≡ mid ++ ReadElement name.text ∷ [] → Grown (PieceCode dialect p) old new
  grown_elem old mid new p s name ps e g h = (
    g.0 ++ ReadElement name.text ∷ [],
    (join (ext {m0 = old} {c = g.0} g.1) (ext {m0 = mid} {c = ReadElement name.text ∷ []} h)).is,
    subst (λ q. PieceCode dialect q (g.0 ++ ReadElement name.text ∷ [])) (sym e) (element_does dialect name.text (parts_of ps) g.0 (index_does dialect ps g.0 g.2)),
  )

  pub grown_bracket : (old new : Code) (p : Part) (s script : Stretch) → p ≡ bracket s script → Grown (BracketCode dialect script.text) old new → Grown (PieceCode dialect p) old new
  grown_bracket old new p s script e g = (g.0, g.1, subst (λ q. PieceCode dialect q g.0) (sym e) g.2)

  pub grown_deeper : (c0 c1 c2 c3 : Code) (t : Text) → c1 ≡ c0 ++ Enter ∷ [] → Grown (ScriptCode dialect t) c1 c2 → c3 ≡ c2 ++ Leave ∷ [] → Grown (BracketCode dialect t) c0 c3
  grown_deeper c0 c1 c2 c3 t e1 g e3 = (
    Enter ∷ (g.0 ++ Leave ∷ []),
    (join (ext {m0 = c0} {c = Enter ∷ []} e1) (join (ext {m0 = c1} {c = g.0} g.1) (ext {m0 = c2} {c = Leave ∷ []} e3))).is,
    bracket_does dialect t g.0 g.2,
  )

  -- ---- a word

  pub piece_leads : (n : ℕ) (ps : List Part) (i : ℕ) (p : Part) (old mid new : Code) → i < length ps → p ≡ get_or ps i p → Leads (PiecesLeft dialect n (drop i ps)) (PiecesLeft dialect n ps) old mid → Grown (PieceCode dialect p) mid new → Leads (PiecesLeft dialect n (drop (i + 1) ps)) (PiecesLeft dialect n ps) old new
  piece_leads n ps i p old mid new lt e l g =
      leads_on (PiecesLeft dialect n (drop i ps)) (PiecesLeft dialect n (drop (i + 1) ps)) (PieceCode dialect p) (PiecesLeft dialect n ps) old mid new
      (λ c more h k. subst (λ qs. PiecesLeft dialect n qs (c ++ more)) (sym (drop_here ps i p lt e)) (joins_next dialect n p (drop (i + 1) ps) c more h k)) l g

  pub grown_word : (ps : List Part) (i n : ℕ) (old mid new : Code) → length ps ≤ i → n ≡ length ps → Leads (PiecesLeft dialect (length ps) (drop i ps)) (PiecesLeft dialect (length ps) ps) old mid → new ≡ mid ++ Join n ∷ [] → Grown (WordCode dialect ps) old new
  grown_word ps i n old mid new le e l h =
      let last : PiecesLeft dialect (length ps) (drop i ps) (Join n ∷ []) = subst (λ m. PiecesLeft dialect (length ps) (drop i ps) (Join m ∷ [])) (sym e) (subst (λ qs. PiecesLeft dialect (length ps) qs (Join (length ps) ∷ [])) (sym (drop_end ps i le)) (joins_end dialect (length ps))) in
      let g = leads_end (PiecesLeft dialect (length ps) (drop i ps)) (PiecesLeft dialect (length ps) ps) old mid new l (Join n ∷ [], h, last) in
      (g.0, g.1, word_does dialect ps g.0 g.2)

  pub grown_nothing : (ps : List Part) (old new : Code) → length ps ≡ 0 → new ≡ old ++ Push [] ∷ [] → Grown (WordCode dialect ps) old new
  grown_nothing [] old new e h = (Push [] ∷ [], h, push_does dialect [])
  grown_nothing (p ∷ ps) old new e h = absurd cc

  pub grown_one : (ps : List Part) (p : Part) (old new : Code) → length ps ≡ 1 → p ≡ get_or ps 0 p → Grown (PieceCode dialect p) old new → Grown (WordCode dialect ps) old new
  grown_one [] p old new e is g = absurd cc
  grown_one (q ∷ []) p old new e is g = (g.0, g.1, subst (λ x. WordCode dialect (x ∷ []) g.0) is (piece_does dialect p g.0 g.2))
  grown_one (q ∷ r ∷ ps) p old new e is g = absurd (omega (arith, e))

  -- ---- a command

  pub word_leads : (n : ℕ) (ws : List Shape) (i : ℕ) (w : Shape) (old mid new : Code) → w.expands ≡ false → i < length ws → w ≡ get_or ws i w → Leads (WordsLeft dialect n (drop i ws)) (WordsLeft dialect n ws) old mid → Grown (WordCode dialect w.pieces) mid new → Leads (WordsLeft dialect n (drop (i + 1) ws)) (WordsLeft dialect n ws) old new
  word_leads n ws i w old mid new plain lt e l g =
      leads_on (WordsLeft dialect n (drop i ws)) (WordsLeft dialect n (drop (i + 1) ws)) (WordCode dialect w.pieces) (WordsLeft dialect n ws) old mid new
      (λ c more h k. subst (λ qs. WordsLeft dialect n qs (c ++ more)) (sym (drop_here ws i w lt e)) (calls_next dialect n w (drop (i + 1) ws) c more plain h k)) l g

  pub grown_command : (ws : List Shape) (i n : ℕ) (old mid new : Code) → length ws ≤ i → n ≡ length ws → Leads (WordsLeft dialect (length ws) (drop i ws)) (WordsLeft dialect (length ws) ws) old mid → new ≡ mid ++ Call n ∷ [] → Grown (CommandCode dialect ws) old new
  grown_command ws i n old mid new le e l h =
      let last : WordsLeft dialect (length ws) (drop i ws) (Call n ∷ []) = subst (λ m. WordsLeft dialect (length ws) (drop i ws) (Call m ∷ [])) (sym e) (subst (λ qs. WordsLeft dialect (length ws) qs (Call (length ws) ∷ [])) (sym (drop_end ws i le)) (calls_end dialect (length ws))) in
      let g = leads_end (WordsLeft dialect (length ws) (drop i ws)) (WordsLeft dialect (length ws) ws) old mid new l (Call n ∷ [], h, last) in
      (g.0, g.1, command_does dialect ws g.0 g.2)

  -- a word that is added to those gathered
  pub gather_leads : (ws : List Shape) (i : ℕ) (w : Shape) (old mid mid' new : Code) → i < length ws → w ≡ get_or ws i w → Leads (GatheredLeft dialect (drop i ws)) (GatheredLeft dialect ws) old mid → Grown (WordCode dialect w.pieces) mid mid' → new ≡ mid' ++ adding w.expands ∷ [] → Leads (GatheredLeft dialect (drop (i + 1) ws)) (GatheredLeft dialect ws) old new
  gather_leads ws i w old mid mid' new lt e l g h =
      leads_on (GatheredLeft dialect (drop i ws)) (GatheredLeft dialect (drop (i + 1) ws)) Added (GatheredLeft dialect ws) old mid new
      (λ c more k n. subst (λ qs. GatheredLeft dialect qs (c ++ more)) (sym (drop_here ws i w lt e))
      (subst (GatheredLeft dialect (w ∷ drop (i + 1) ws)) (sym (ap (λ x. x ++ more) k.1 ∙ append_assoc k.0 (adding w.expands ∷ []) more)) (gathers_next dialect w (drop (i + 1) ws) k.0 more k.2 n))) l
      (g.0 ++ adding w.expands ∷ [], (join (ext {m0 = mid} {c = g.0} g.1) (ext {m0 = mid'} {c = adding w.expands ∷ []} h)).is, (g.0, refl, g.2))
    where
      Added : Code → Type 0
      Added c = (b : Code) × (c ≡ b ++ adding w.expands ∷ []) × WordCode dialect w.pieces b

  pub grown_gathered : (ws : List Shape) (i : ℕ) (old c1 mid new : Code) → length ws ≤ i → c1 ≡ old ++ Gather ∷ [] → Leads (GatheredLeft dialect (drop i ws)) (GatheredLeft dialect ws) c1 mid → new ≡ mid ++ CallGathered ∷ [] → Grown (CommandCode dialect ws) old new
  grown_gathered ws i old c1 mid new le e l h =
      let last : GatheredLeft dialect (drop i ws) (CallGathered ∷ []) = subst (λ qs. GatheredLeft dialect qs (CallGathered ∷ [])) (sym (drop_end ws i le)) (gathers_end dialect) in
      let g = leads_end (GatheredLeft dialect (drop i ws)) (GatheredLeft dialect ws) c1 mid new l (CallGathered ∷ [], h, last) in
      (Gather ∷ g.0, (join (ext {m0 = old} {c = Gather ∷ []} e) (ext {m0 = c1} {c = g.0} g.1)).is, gathered_does dialect ws g.0 g.2)
