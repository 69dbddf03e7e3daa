use Rattle.std.proofs.Common.{◌≡◌, ◌∷◌, None, inl, inr, length, map, ◌<◌, ◌+◌, drop, ap, ◌∙◌, subst, sym, arith}
use Rattle.std.specs.Str.{chars}
use Rattle.std.specs.String.{string_bytes}
use Rattle.std.proofs.lemmas.List.{length-map}
use Rattle.std.proofs.lemmas.Str.{chars-nil}
use Rattle.tcl_words.specs.Parts.{part_of, stretch_of}
use Rattle.tcl_compile.specs.Literals.{spelled}
use Rattle.tcl_compile.proofs.LiteralWords.{Spells, spells_start, spells_text, spells_escape, spells_none}
use Rattle.tcl_compile.proofs.Parsing.{map_at, part-text, part-escape, part-var, part-elem, part-bracket}
use Rattle.tcl_compile.proofs.literals.spelled.Goals as goal
use Rattle.tcl_compile.proofs.literals.spelled.Goals.{in-Text+in_ok-push_text-in-Text, in-Escape+in_ok-push-in-Escape}

pub pieces-init : goal.pieces-init
pieces-init c = spells_start (map part_of c.args.pieces.now) (chars (string_bytes c.new-text.result)) (ap chars c.new-text.ensures.bytes ∙ chars-nil)

pub pieces-preserved : goal.pieces-preserved
pieces-preserved c =
    let ps = map part_of c.args.pieces.now in
    let i = c.pieces.piece-index in
    let p = part_of c.piece-item.result in
    let lt : i < length ps = omega (arith, length-map c.args.pieces.now part_of) in
    let at = map_at part_of c.args.pieces.now i c.piece-item.result c.piece-item.is in
    let front = chars (string_bytes c.pieces.text) in
    let here = c.pieces.invariant in
    elim c.match-piece.branch [
      | in-Text+in_ok-push_text-in-Text w ↦ subst (λ t. Spells ps t (drop (i + 1) ps)) (sym (ap (λ t. chars (string_bytes t)) w.text-is ∙ w.in_ok-push_text-in-Text.ensures.ok)) (spells_text ps i p front lt at here (stretch_of w.in-Text.span) (part-text _ _ w.in-Text.is))
      | in-Escape+in_ok-push-in-Escape w ↦ subst (λ t. Spells ps t (drop (i + 1) ps)) (sym (ap (λ t. chars (string_bytes t)) w.text-is ∙ w.in_ok-push-in-Escape.ensures.ok)) (spells_escape ps i p front lt at here (stretch_of w.in-Escape.field-0) w.in-Escape.c (part-escape _ _ _ w.in-Escape.is))
    ]

pub returns-in-Var : goal.returns-in-Var
returns-in-Var c =
    let ps = map part_of c.args.pieces.now in
    let i = c.pieces.piece-index in
    let p = part_of c.piece-item.result in
    let lt : i < length ps = omega (arith, length-map c.args.pieces.now part_of) in
    let at = map_at part_of c.args.pieces.now i c.piece-item.result c.piece-item.is in
    let left = drop (i + 1) ps in
    let none : spelled (p ∷ left) ≡ None = elim c.in-Var.is [
      | inl v ↦ ap (λ q. spelled (q ∷ left)) (part-var c.piece-item.result v.0 v.1 v.2)
      | inr (inl v) ↦ ap (λ q. spelled (q ∷ left)) (part-elem c.piece-item.result v.0 v.1 v.2 v.3)
      | inr (inr v) ↦ ap (λ q. spelled (q ∷ left)) (part-bracket c.piece-item.result v.0 v.1 v.2)
    ] in
    spells_none ps i p (chars (string_bytes c.pieces.text)) lt at c.pieces.invariant none
