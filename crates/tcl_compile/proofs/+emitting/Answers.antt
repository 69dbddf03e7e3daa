use Rattle.std.proofs.Common.{rules, [], ◌++◌, get_or, take, drop, length-drop, subst, ◌≤◌, ◌≡◌, ◌<◌, ◌+◌, ◌-◌, ◌*◌, length, map, sym, ap, ◌∙◌, arith, ℕ}
use Rattle.std.proofs.lemmas.Result.{on_ok_weaker}
use Rattle.std.proofs.lemmas.List.{length-map}
use Rattle.std.specs.Str.{chars}
use Rattle.std.specs.String.{string_bytes}
use Rattle.tcl_list.specs.Texts as texts
use Rattle.tcl_words.specs.Parts.{shape_of, part_of, parts_of, stretch_of}
use Rattle.tcl_meaning.specs.Nesting.{PartNests, PartsNest, WordsNest}
use Rattle.tcl_words.specs.First.{most_levels}
use Rattle.tcl_meaning.proofs.Nests.{first_nests, parts_nest_at, words_nest_at}
use Rattle.tcl_compile.specs.Emitted.{GatheredLeft}
use Rattle.tcl_compile.specs.Within.{PartWithin, PartsWithin, WordsWithin}
use Rattle.tcl_compile.proofs.Within.{first_shorter, parts_within_at, words_within_at}
use Rattle.tcl_compile.proofs.Emits.{grown_one, grown_text, grown_escape, grown_var, grown_elem, grown_bracket, grown_deeper, grown_nothing, grown_word, grown_command, grown_gathered, piece_leads, word_leads, gather_leads, leads_start, plain_at}
use Rattle.tcl_compile.proofs.Paging.{are_none, are_some, behind_first, behind_less, first_split, grown_break, grown_continue, grown_increment, grown_expr, grown_if, grown_while, grown_body, grown_none, grown_last, grown_clause, grown_looped, grown_turns, grown_loop, grown_whole_for}
use Rattle.tcl_compile.proofs.EachEmits.{each_short, grown_each, grown_each_turns, told_leads}
use Rattle.tcl_compile.proofs.Forming.{grown_changed, change_long, form_plain, form_short, grown_guarded}
use Rattle.tcl_compile.proofs.Parsing.{parsed_end, parsed_bad, parsed_command, map_at, part-text, part-escape, part-var, part-elem, part-bracket}
use Rattle.tcl_expr.specs.View.{fault_view, leaf_of, step_of, view}
use Rattle.tcl_compile.specs.Trees.{TreeIsRead}
use Rattle.tcl_compile.proofs.TreeEmits.{grown_literal, grown_operand, grown_group, grown_unary, grown_power, grown_chain, grown_choice, grown_call, grown_eager, grown_lazy, grown_rest, grown_arguments, argument_leads, step_leads, argument_read, step_read}
use Rattle.tcl_compile.proofs.Views.{parsed_tree, is_operand, is_group, is_call, is_unary, is_power, is_chain, is_choice}
use Rattle.tcl_expr.specs.Machine.{args_of, rest_of}
use Rattle.tcl_expr.specs.Gives.{result_view}
use Rattle.std.specs.Borrow.{Bor}
use Rattle.std.proofs.lemmas.Bool.{false≢true}
use Rattle.std.specs.Prelude.{IsSome, List, ℕ, Option, option_map}
use Rattle.tcl_compile.specs.Whiles.{IsWhile}
use Rattle.tcl_compile.specs.Forms.{FormIsShort, ClausesAreShort, ClausesCode, OtherwiseIsShort, clause_of, most_clauses}
use Rattle.tcl_compile.specs.Fragments.{Grown, call_of_list}
use Rattle.tcl_compile.specs.declared.inlining.Clause.{Clause}
use Rattle.tcl_compile.specs.Within.{ArgumentsAreShort, TextsAreShort}
use Rattle.tcl_compile.proofs.Scripts.{made_code, made_without, script_leads, script_ends, script_fails}
use Rattle.tcl_compile.proofs.Shorter.{first_short}
use Rattle.tcl_compile.specs.Changes.{IsChange}
use Rattle.tcl_compile.specs.Eaches.{IsEach}
use Rattle.tcl_compile.specs.Literals.{AllLiteral, IsListOf, text_of}
use Rattle.tcl_compile.proofs.LiteralWords.{of_some}
use Rattle.tcl_compile.proofs.ListCalls.{grown_list}
use Rattle.tcl_compile.proofs.Whiles.{loop_long, loop_plain, no_change, no_each, no_return, no_switch}
use Rattle.tcl_compile.proofs.ReturnLemmas.{grown_return}
use Rattle.tcl_compile.specs.Switches.{AreArms, ArmCode, ArmsCode, IsSwitch, most_arm_texts, testing}
use Rattle.tcl_compile.proofs.SwitchLemmas.{arms_behind, grown_arm, grown_default, grown_no_arms, grown_switch, grown_tested, short_at, short_behind, switch_short}
use Rattle.tcl_compile.proofs.Clauses.{rest_is}
use Rattle.tcl_compile.proofs.Weights.{reach, reach_more, reach_le, weight, weight_args, weight_rest, light, argument_lighter, step_lighter}
use Rattle.tcl_compile.proofs.Expressions.{tree_some, grown_value, grown_fault}
use Rattle.tcl_compile.proofs.Leaves.{tree_is_read}
use Rattle.tcl_compile.proofs.+emitting.Goals as goal

pub script::emit_piece-returns-in-Text : goal.script::emit_piece-returns-in-Text
script::emit_piece-returns-in-Text t c = on_ok_weaker c.push.result (λ h. grown_text c.args.context.dialect _ _ (part_of c.args.piece.now) (stretch_of c.in-Text.span) (part-text _ _ c.in-Text.is) h) c.push.ensures.done

pub script::emit_piece-returns-in-Escape : goal.script::emit_piece-returns-in-Escape
script::emit_piece-returns-in-Escape t c = on_ok_weaker c.emit_char.result (λ h. grown_escape c.args.context.dialect _ _ (part_of c.args.piece.now) (stretch_of c.in-Escape.field-0) c.in-Escape.c (part-escape _ _ _ c.in-Escape.is) h) c.emit_char.ensures

pub script::emit_piece-returns-in-Var : goal.script::emit_piece-returns-in-Var
script::emit_piece-returns-in-Var t c = on_ok_weaker c.read.result (λ h. grown_var c.args.context.dialect _ _ (part_of c.args.piece.now) (stretch_of c.in-Var.field-0) (stretch_of c.in-Var.name) (part-var _ _ _ c.in-Var.is) h) c.read.ensures.done

pub script::emit_piece-returns-in_ok-emit_pieces-in-Elem : goal.script::emit_piece-returns-in_ok-emit_pieces-in-Elem
script::emit_piece-returns-in_ok-emit_pieces-in-Elem t c =
    on_ok_weaker c.read_element.result
    (λ h. grown_elem c.args.context.dialect _ c.emit_pieces.new.code _ (part_of c.args.piece.now) (stretch_of c.in-Elem.field-0) (stretch_of c.in-Elem.name) (map part_of c.in-Elem.index.items) (part-elem _ _ _ _ c.in-Elem.is) (rw c.deref.ensures.value at c.in_ok-emit_pieces-in-Elem.ensures) h) c.read_element.ensures.done

pub script::emit_piece-returns-in-Bracket : goal.script::emit_piece-returns-in-Bracket
script::emit_piece-returns-in-Bracket t c = on_ok_weaker c.emit_deeper.result (λ g. grown_bracket c.args.context.dialect _ _ (part_of c.args.piece.now) (stretch_of c.in-Bracket.field-0) (stretch_of c.in-Bracket.script) (part-bracket _ _ _ c.in-Bracket.is) g) c.emit_deeper.ensures

pub script::emit_deeper-returns : goal.script::emit_deeper-returns
script::emit_deeper-returns t c = on_ok_weaker c.emit-2.result (λ e. grown_deeper c.args.context.dialect _ _ _ _ (chars c.args.text.now) c.in_ok-emit.ensures.done (rw c.within.ensures at (made_code _ _ _ _ _ c.in_ok-emit_script.ensures)) e) c.emit-2.ensures.done

pub script::emit_pieces-pieces-preserved : goal.script::emit_pieces-pieces-preserved
script::emit_pieces-pieces-preserved t c =
    let ps = map part_of c.args.pieces.now in
    let lt : c.pieces.piece-index < length ps = omega (arith, length-map c.args.pieces.now part_of) in
    let i = c.pieces.invariant in
    record {
      leads = piece_leads c.args.context.dialect (length ps) ps c.pieces.piece-index (part_of c.piece-item.result) _ c.pieces.code _ lt (map_at part_of c.args.pieces.now c.pieces.piece-index c.piece-item.result c.piece-item.is) i.leads c.in_ok-emit_piece.ensures;
      some = i.some;
      nests = i.nests;
      within = i.within;
    }

pub script::emit_pieces-emit_piece-requires-in-pieces : goal.script::emit_pieces-emit_piece-requires-in-pieces
script::emit_pieces-emit_piece-requires-in-pieces t c =
    let ps = map part_of c.args.pieces.now in
    let lt : c.pieces.piece-index < length ps = omega (arith, length-map c.args.pieces.now part_of) in
    let at = map_at part_of c.args.pieces.now c.pieces.piece-index c.piece-item.result c.piece-item.is in
    let nests : PartNests c.args.levels (part_of c.piece-item.result) = parts_nest_at c.args.levels ps c.pieces.piece-index (part_of c.piece-item.result) c.pieces.invariant.nests lt at in
    let within : PartWithin (length (chars c.args.whole.now) - 1) (part_of c.piece-item.result) = parts_within_at (length (chars c.args.whole.now) - 1) ps c.pieces.piece-index (part_of c.piece-item.result) c.pieces.invariant.within lt at in
    search rules

pub script::emit_pieces-emit_piece-requires : goal.script::emit_pieces-emit_piece-requires
script::emit_pieces-emit_piece-requires t c =
    let ps = map part_of c.args.pieces.now in
    let one = c.if-pieces-eq1.true in
    let lt : 0 < length ps = omega (arith, length-map c.args.pieces.now part_of, one) in
    let at = map_at part_of c.args.pieces.now 0 c.index-pieces-0.result c.index-pieces-0.is in
    let nests : PartNests c.args.levels (part_of c.index-pieces-0.result) = parts_nest_at c.args.levels ps 0 (part_of c.index-pieces-0.result) c.requires.1.1.1.0 lt at in
    let within : PartWithin (length (chars c.args.whole.now) - 1) (part_of c.index-pieces-0.result) = parts_within_at (length (chars c.args.whole.now) - 1) ps 0 (part_of c.index-pieces-0.result) c.requires.1.1.1.1 lt at in
    search rules

pub script::emit_pieces-returns-then-is_empty : goal.script::emit_pieces-returns-then-is_empty
unfolding chars
script::emit_pieces-returns-then-is_empty t c =
    let ps = map part_of c.args.pieces.now in
    let none = length-map c.args.pieces.now part_of ∙ are_none c.args.pieces.now c.is_empty.result c.is_empty.ensures c.if-is_empty.true in
    on_ok_weaker c.push.result (λ h. grown_nothing c.args.context.dialect ps _ _ none h) c.push.ensures.done

pub script::emit_pieces-returns-then-pieces-eq1 : goal.script::emit_pieces-returns-then-pieces-eq1
script::emit_pieces-returns-then-pieces-eq1 t c =
    let ps = map part_of c.args.pieces.now in
    let one = c.if-pieces-eq1.true in
    let long : length ps ≡ 1 = omega (arith, length-map c.args.pieces.now part_of, one) in
    on_ok_weaker c.emit_piece.result (λ g. grown_one c.args.context.dialect ps (part_of c.index-pieces-0.result) _ _ long (map_at part_of c.args.pieces.now 0 c.index-pieces-0.result c.index-pieces-0.is) g) c.emit_piece.ensures

pub script::emit_pieces-returns : goal.script::emit_pieces-returns
script::emit_pieces-returns t c =
    let ps = map part_of c.args.pieces.now in
    let n = length-map c.args.pieces.now part_of in
    on_ok_weaker c.emit_join.result (λ h. grown_word c.args.context.dialect ps c.pieces.piece-index _ _ c.pieces.code _ (omega (arith, n)) (sym n) c.pieces.invariant.leads h) c.emit_join.ensures

pub script::emit_plain-words-preserved : goal.script::emit_plain-words-preserved
script::emit_plain-words-preserved t c =
    let ws = map shape_of c.args.words.now in
    let lt : c.words.word-index < length ws = omega (arith, length-map c.args.words.now shape_of) in
    let at = map_at shape_of c.args.words.now c.words.word-index c.word-item.result c.word-item.is in
    let i = c.words.invariant in
    record {
      leads = word_leads c.args.context.dialect (length ws) ws c.words.word-index (shape_of c.word-item.result) _ c.words.code _ (plain_at ws c.words.word-index (shape_of c.word-item.result) i.plain lt at) lt at i.leads c.in_ok-emit_word.ensures;
      plain = i.plain;
      some = i.some;
      nests = i.nests;
      within = i.within;
    }

pub script::emit_plain-emit_word-requires : goal.script::emit_plain-emit_word-requires
script::emit_plain-emit_word-requires t c =
    let ws = map shape_of c.args.words.now in
    let lt : c.words.word-index < length ws = omega (arith, length-map c.args.words.now shape_of) in
    let at = map_at shape_of c.args.words.now c.words.word-index c.word-item.result c.word-item.is in
    let nests : PartsNest most_levels (parts_of (map part_of c.word-item.result.pieces.items)) = words_nest_at most_levels ws c.words.word-index (shape_of c.word-item.result) c.words.invariant.nests lt at in
    let within : PartsWithin (length (chars c.args.whole.now) - 1) (parts_of (map part_of c.word-item.result.pieces.items)) = words_within_at (length (chars c.args.whole.now) - 1) ws c.words.word-index (shape_of c.word-item.result) c.words.invariant.within lt at in
    search rules

pub script::emit_plain-returns : goal.script::emit_plain-returns
script::emit_plain-returns t c =
    let ws = map shape_of c.args.words.now in
    let n = length-map c.args.words.now shape_of in
    grown_command c.args.context.dialect ws c.words.word-index _ _ c.words.code _ (omega (arith, n)) (sym n) c.words.invariant.leads (c.prefer_ways.ensures ∙ c.in_ok-emit_call.ensures)

pub script::emit_gathered-words-init : goal.script::emit_gathered-words-init
script::emit_gathered-words-init t c = record {
  begun = (c.emit.new.self, c.in_ok-emit.ensures.done, leads_start (GatheredLeft c.args.context.dialect (map shape_of c.args.words.now)) c.emit.new.self);
  some = search rules;
  nests = search rules;
  within = search rules;
}

pub script::emit_gathered-words-preserved : goal.script::emit_gathered-words-preserved
script::emit_gathered-words-preserved t c =
    let ws = map shape_of c.args.words.now in
    let lt : c.words.word-index < length ws = omega (arith, length-map c.args.words.now shape_of) in
    let at = map_at shape_of c.args.words.now c.words.word-index c.word-item.result c.word-item.is in
    let i = c.words.invariant in
    record {
      begun = (i.begun.0, i.begun.1, gather_leads c.args.context.dialect ws c.words.word-index (shape_of c.word-item.result) _ c.words.code _ _ lt at i.begun.2 c.in_ok-emit_word.ensures c.in_ok-emit_add.ensures);
      some = i.some;
      nests = i.nests;
      within = i.within;
    }

pub script::emit_gathered-emit_word-requires : goal.script::emit_gathered-emit_word-requires
script::emit_gathered-emit_word-requires t c =
    let ws = map shape_of c.args.words.now in
    let lt : c.words.word-index < length ws = omega (arith, length-map c.args.words.now shape_of) in
    let at = map_at shape_of c.args.words.now c.words.word-index c.word-item.result c.word-item.is in
    let nests : PartsNest most_levels (parts_of (map part_of c.word-item.result.pieces.items)) = words_nest_at most_levels ws c.words.word-index (shape_of c.word-item.result) c.words.invariant.nests lt at in
    let within : PartsWithin (length (chars c.args.whole.now) - 1) (parts_of (map part_of c.word-item.result.pieces.items)) = words_within_at (length (chars c.args.whole.now) - 1) ws c.words.word-index (shape_of c.word-item.result) c.words.invariant.within lt at in
    search rules

pub script::emit_gathered-returns : goal.script::emit_gathered-returns
script::emit_gathered-returns t c =
    let ws = map shape_of c.args.words.now in
    let n = length-map c.args.words.now shape_of in
    let b = c.words.invariant.begun in
    on_ok_weaker c.emit-2.result (λ h. grown_gathered c.args.context.dialect ws c.words.word-index _ b.0 c.words.code _ (omega (arith, n)) b.1 b.2 h) c.emit-2.ensures.done

pub script::emit_script-returns-in-End : goal.script::emit_script-returns-in-End
script::emit_script-returns-in-End t c =
    let e = parsed_end _ _ _ _ c.in_ok-first.ensures c.in-End.is in
    script_ends c.args.context.dialect c.args.context.outermost (chars c.args.text.now) (chars c.commands.rest.now) e.rest _ _ e.is c.commands.invariant.1.leads

pub script::emit_script-returns-in-Bad : goal.script::emit_script-returns-in-Bad
script::emit_script-returns-in-Bad t c =
    let e = parsed_bad _ _ _ _ c.in_ok-first.ensures c.in-Bad.is in
    on_ok_weaker c.raise.result
    (λ h. script_fails c.args.context.dialect c.args.context.outermost (chars c.args.text.now) (chars c.commands.rest.now) c.in-Bad.fault _ _ c.commands.code _ e c.text.ensures.text c.commands.invariant.1.leads h) c.raise.ensures.done

pub script::emit_script-emit_command-requires : goal.script::emit_script-emit_command-requires
script::emit_script-emit_command-requires t c =
    let e = parsed_command _ _ c.in-Command.words c.in-Command.after _ c.in_ok-first.ensures c.in-Command.is in
    let now = chars c.commands.rest.now in
    let short = first_shorter most_levels now _ e.rest e.is in
    let less = short.less in
    let shorter = c.commands.invariant.1.shorter in
    let some : 0 < length now = omega arith in
    let falls : reach (length now) + 603 < reach (length (chars c.args.text.now)) + 900 = omega (arith, reach_le (length now) (length (chars c.args.text.now)) shorter) in
    let nests : WordsNest most_levels (map shape_of c.as_slice.result.now) = rw c.as_slice.ensures.value (first_nests most_levels now _ e.rest e.is) in
    let within : WordsWithin (length now - 1) (map shape_of c.as_slice.result.now) = rw c.as_slice.ensures.value short.within in
    let arguments : ArgumentsAreShort (length now - 1) (map shape_of c.as_slice.result.now) = rw c.as_slice.ensures.value (first_short most_levels now _ e.rest e.is) in
    search rules

pub script::emit_script-commands-smaller : goal.script::emit_script-commands-smaller
script::emit_script-commands-smaller t c =
    let e = parsed_command _ _ c.in-Command.words c.in-Command.after _ c.in_ok-first.ensures c.in-Command.is in
    let now = chars c.commands.rest.now in
    let short = first_shorter most_levels now _ e.rest e.is in
    let less = short.less in
    let left : chars c.range_from-rest.result.now ≡ e.rest = ap chars c.range_from-rest.ensures.value ∙ e.left in
    let same = ap length left in
    omega arith

pub script::emit_script-commands-preserved : goal.script::emit_script-commands-preserved
script::emit_script-commands-preserved t c =
    let e = parsed_command _ _ c.in-Command.words c.in-Command.after _ c.in_ok-first.ensures c.in-Command.is in
    let now = chars c.commands.rest.now in
    let short = first_shorter most_levels now _ e.rest e.is in
    let less = short.less in
    let left : chars c.range_from-rest.result.now ≡ e.rest = ap chars c.range_from-rest.ensures.value ∙ e.left in
    let same = ap length left in
    let was = c.commands.invariant.1.shorter in (
      search rules,
      record {
        leads = rw left (script_leads c.args.context.dialect c.args.context.outermost (chars c.args.text.now) now e.rest (map shape_of c.in-Command.words.items) _ c.commands.code _ _ e.is c.commands.invariant.1.leads c.in_ok-emit_spend-in-Command.ensures (rw c.as_slice.ensures.value at c.in_ok-emit_command-in-Command.ensures));
        shorter = omega arith;
      },
    )

pub script::emit_word-returns : goal.script::emit_word-returns
script::emit_word-returns t c = rw c.as_slice.ensures.value at c.emit_pieces.ensures

pub script::emit_changed-returns : goal.script::emit_changed-returns
script::emit_changed-returns t c =
    let ws = map shape_of c.args.words.now in
    let is = c.requires.1.1.0 in
    let at = map_at shape_of c.args.words.now 2 c.index-words-2.result c.index-words-2.is in
    on_ok_weaker c.emit_change.result (λ h. grown_changed c.args.context.dialect c.args.change (chars c.args.name.now) ws (shape_of c.index-words-2.result) _ _ _ is at (change_long c.args.change (chars c.args.name.now) ws is) c.in_ok-emit_word.ensures h) c.emit_change.ensures

pub script::emit_inlined-emit_beside-requires : goal.script::emit_inlined-emit_beside-requires
script::emit_inlined-emit_beside-requires t c = (search rules, (form_plain c.args.form.now (map shape_of c.args.words.now) c.requires.1.1.0, (c.requires.1.1.1.0, (c.requires.1.1.1.1.0, (c.requires.1.1.1.1.1.0, c.in_ok-list.ensures)))))

pub script::emit_beside-returns-in-Some : goal.script::emit_beside-returns-in-Some
script::emit_beside-returns-in-Some t c =
    let ws = map shape_of c.args.words.now in
    let is = of_some (λ l. IsListOf (chars (string_bytes l)) ws) c.args.list.now c.in-Some.list c.in-Some.is c.requires.1.1.1.1.1.1 in
    on_ok_weaker c.emit_list.result
    (λ h. grown_list ws is.0 (chars (string_bytes c.in-Some.list)) _ _ is.1 is.2 (h ∙ ap (λ t. c.args.code.now ++ call_of_list (chars t)) c.as_str.ensures.value) c.args.context.dialect)
    c.emit_list.ensures

pub script::emit_inlined-returns : goal.script::emit_inlined-returns
script::emit_inlined-returns t c =
    on_ok_weaker c.lead_here-2.result
    (λ h. grown_guarded c.args.context.dialect _ _ _ _ _ _ _ c.args.form.now (map shape_of c.args.words.now) c.requires.1.1.0 (rw c.command_of.ensures at (rw c.in_ok-foresee_call.ensures at c.in_ok-emit.ensures.done)) c.in_ok-emit_page.ensures c.in_ok-emit-2.ensures.done
    (λ front back i e p. c.in_ok-lead_here.ensures front back i e (c.len-guard.ensures ∙ ap length c.in_ok-foresee_call.ensures ∙ p)) c.in_ok-emit_beside.ensures (λ front back i e p. h front back i e (c.len-past.ensures ∙ p))) c.lead_here-2.ensures

pub tree::emit_eager-returns : goal.tree::emit_eager-returns
tree::emit_eager-returns t c = on_ok_weaker c.emit.result (λ h. grown_eager c.args.context.dialect _ _ _ c.args.op (view c.args.right.now) c.requires.1.1.1.1 c.in_ok-emit_tree.ensures h) c.emit.ensures.done

pub tree::emit_lazy-returns : goal.tree::emit_lazy-returns
tree::emit_lazy-returns t c =
    on_ok_weaker c.emit_truth.result
    (λ h. grown_lazy c.args.context.dialect _ _ _ _ _ _ _ c.args.op c.args.decided (view c.args.right.now) c.requires.1.1.1.1 c.in_ok-emit.ensures.done c.in_ok-emit_tree.ensures c.in_ok-emit-2.ensures.done c.in_ok-emit-3.ensures.done
    (λ front back i e p. c.in_ok-lead_here.ensures front back i e (c.len-place.ensures ∙ p)) h) c.emit_truth.ensures

pub tree::emit_tree-returns-in-Operand : goal.tree::emit_tree-returns-in-Operand
tree::emit_tree-returns-in-Operand t c = rw (is_operand c.args.tree.now c.in-Operand.leaf c.in-Operand.is) c.emit_leaf.ensures

pub tree::emit_tree-returns-in-Group : goal.tree::emit_tree-returns-in-Group
tree::emit_tree-returns-in-Group t c = on_ok_weaker c.emit_tree.result (λ g. grown_group c.args.context.dialect _ _ (view c.args.tree.now) (view c.in-Group.inner.value) (is_group c.args.tree.now c.in-Group.inner c.in-Group.is) g) (rw c.deref.ensures at c.emit_tree.ensures)

pub tree::emit_tree-returns-in-Call : goal.tree::emit_tree-returns-in-Call
tree::emit_tree-returns-in-Call t c =
    let es = map view c.in-Call.arguments.items in
    on_ok_weaker c.emit_call.result
    (λ g. grown_call c.args.context.dialect c.in-Call.function (stretch_of c.in-Call.field-1) (view c.args.tree.now) es (length c.in-Call.arguments.items) _ _ (is_call c.args.tree.now c.in-Call.function c.in-Call.field-1 c.in-Call.arguments c.in-Call.is) (sym (length-map c.in-Call.arguments.items view)) g)
    (rw c.deref-in-Call.ensures.value at c.emit_call.ensures)

pub tree::emit_tree-returns-in_ok-emit_tree-in-Unary : goal.tree::emit_tree-returns-in_ok-emit_tree-in-Unary
tree::emit_tree-returns-in_ok-emit_tree-in-Unary t c =
    on_ok_weaker c.emit.result (λ h. grown_unary c.args.context.dialect _ _ _ (view c.args.tree.now) (view c.in-Unary.inner.value) c.in-Unary.op (is_unary c.args.tree.now c.in-Unary.op c.in-Unary.inner c.in-Unary.is) (rw c.deref-in-Unary.ensures at c.in_ok-emit_tree-in-Unary.ensures) h) c.emit.ensures.done

pub tree::emit_tree-returns-in_ok-emit_tree-in-Power-2 : goal.tree::emit_tree-returns-in_ok-emit_tree-in-Power-2
tree::emit_tree-returns-in_ok-emit_tree-in-Power-2 t c =
    on_ok_weaker c.emit-in-Power.result
    (λ h. grown_power c.args.context.dialect _ _ _ _ (view c.args.tree.now) (view c.in-Power.base.value) (view c.in-Power.exponent.value) (is_power c.args.tree.now c.in-Power.base c.in-Power.exponent c.in-Power.is)
    (rw c.deref-in-Power.ensures at c.in_ok-emit_tree-in-Power.ensures) (rw c.deref-in-Power-2.ensures at c.in_ok-emit_tree-in-Power-2.ensures) h) c.emit-in-Power.ensures.done

pub tree::emit_tree-returns-in_ok-emit_tree-in-Chain : goal.tree::emit_tree-returns-in_ok-emit_tree-in-Chain
tree::emit_tree-returns-in_ok-emit_tree-in-Chain t c =
    on_ok_weaker c.emit_rest.result
    (λ g. grown_chain c.args.context.dialect _ _ _ (view c.args.tree.now) (view c.in-Chain.first.value) c.in-Chain.field-0 _ (is_chain c.args.tree.now c.in-Chain.field-0 c.in-Chain.first c.in-Chain.rest c.in-Chain.is) (rw c.deref-in-Chain.ensures at c.in_ok-emit_tree-in-Chain.ensures) g)
    (rw c.deref-in-Chain-2.ensures.value at c.emit_rest.ensures)

pub tree::emit_tree-returns-in_ok-emit_tree-in-Choice-3 : goal.tree::emit_tree-returns-in_ok-emit_tree-in-Choice-3
tree::emit_tree-returns-in_ok-emit_tree-in-Choice-3 t c =
    on_ok_weaker c.lead_here-in-Choice.result
    (λ h. grown_choice c.args.context.dialect _ _ _ _ _ _ _ _ (view c.args.tree.now) (view c.in-Choice.condition.value) (view c.in-Choice.yes.value) (view c.in-Choice.no.value) (is_choice c.args.tree.now c.in-Choice.condition c.in-Choice.yes c.in-Choice.no c.in-Choice.is)
    (rw c.deref-in-Choice.ensures at c.in_ok-emit_tree-in-Choice.ensures) c.in_ok-emit-in-Choice.ensures.done (rw c.deref-in-Choice-2.ensures at c.in_ok-emit_tree-in-Choice-2.ensures) c.in_ok-emit-in-Choice-2.ensures.done
    (λ front back i e p. c.in_ok-lead_here-in-Choice.ensures front back i e (c.len-unless.ensures ∙ p)) (rw c.deref-in-Choice-3.ensures at c.in_ok-emit_tree-in-Choice-3.ensures) (λ front back i e p. h front back i e (c.len-past.ensures ∙ p)))
    c.lead_here-in-Choice.ensures

pub tree::emit_call-arguments-preserved : goal.tree::emit_call-arguments-preserved
tree::emit_call-arguments-preserved t c =
    let es = map view c.args.arguments.now in
    let lt : c.arguments.argument-index < length es = omega (arith, length-map c.args.arguments.now view) in
    let at = map_at view c.args.arguments.now c.arguments.argument-index c.argument-item.result c.argument-item.is in
    let i = c.arguments.invariant in
    record {
      leads = argument_leads c.args.context.dialect c.args.function (length c.args.arguments.now) es c.arguments.argument-index (view c.argument-item.result) _ c.arguments.code _ lt at i.leads c.in_ok-emit_tree.ensures;
      some = i.some;
      read = i.read;
    }

pub tree::emit_call-emit_tree-requires : goal.tree::emit_call-emit_tree-requires
tree::emit_call-emit_tree-requires t c =
    let es = map view c.args.arguments.now in
    let lt : c.arguments.argument-index < length es = omega (arith, length-map c.args.arguments.now view) in
    let at = map_at view c.args.arguments.now c.arguments.argument-index c.argument-item.result c.argument-item.is in
    let read : TreeIsRead (length (chars c.args.whole.now) - 1) (view c.argument-item.result) = argument_read (length (chars c.args.whole.now) - 1) es c.arguments.argument-index (view c.argument-item.result) c.arguments.invariant.read lt at in
    let lighter = argument_lighter es c.arguments.argument-index (view c.argument-item.result) lt at in
    let falls : reach (length (chars c.args.whole.now)) + (8 * weight (view c.argument-item.result) + 405) < reach (length (chars c.args.whole.now)) + (8 * weight_args (args_of es) + 406) = omega (arith, lighter) in
    (search rules, (c.arguments.invariant.some, read))

pub tree::emit_call-returns : goal.tree::emit_call-returns
tree::emit_call-returns t c =
    on_ok_weaker c.emit_apply.result (λ h. grown_arguments c.args.context.dialect c.args.function (length c.args.arguments.now) (map view c.args.arguments.now) c.arguments.argument-index _ c.arguments.code _ (omega (arith, length-map c.args.arguments.now view)) c.arguments.invariant.leads h) c.emit_apply.ensures

pub tree::emit_rest-parts-preserved : goal.tree::emit_rest-parts-preserved
tree::emit_rest-parts-preserved t c =
    let xs = map step_of c.args.rest.now in
    let lt : c.parts.part-index < length xs = omega (arith, length-map c.args.rest.now step_of) in
    let at = map_at step_of c.args.rest.now c.parts.part-index c.part-item.result c.part-item.is in
    let i = c.parts.invariant in
    record {
      leads = step_leads c.args.context.dialect xs c.parts.part-index (step_of c.part-item.result) _ c.parts.code _ lt at i.leads c.in_ok-emit_step.ensures;
      some = i.some;
      read = i.read;
    }

pub tree::emit_rest-emit_step-requires : goal.tree::emit_rest-emit_step-requires
tree::emit_rest-emit_step-requires t c =
    let xs = map step_of c.args.rest.now in
    let lt : c.parts.part-index < length xs = omega (arith, length-map c.args.rest.now step_of) in
    let at = map_at step_of c.args.rest.now c.parts.part-index c.part-item.result c.part-item.is in
    let read : TreeIsRead (length (chars c.args.whole.now) - 1) (view c.part-item.result.1) = step_read (length (chars c.args.whole.now) - 1) xs c.parts.part-index (step_of c.part-item.result) c.parts.invariant.read lt at in
    let lighter = step_lighter xs c.parts.part-index (step_of c.part-item.result) lt at in
    let falls : reach (length (chars c.args.whole.now)) + (8 * weight (view c.part-item.result.1) + 407) < reach (length (chars c.args.whole.now)) + (8 * weight_rest (rest_of xs) + 409) = omega (arith, lighter) in
    (search rules, (c.parts.invariant.some, read))

pub tree::emit_rest-returns : goal.tree::emit_rest-returns
tree::emit_rest-returns t c = grown_rest c.args.context.dialect (map step_of c.args.rest.now) c.parts.part-index _ _ (omega (arith, length-map c.args.rest.now step_of)) c.parts.invariant.leads

pub tree::emit_leaf-returns-in-Literal : goal.tree::emit_leaf-returns-in-Literal
tree::emit_leaf-returns-in-Literal t c = on_ok_weaker c.push.result (λ h. grown_literal c.args.context.dialect _ _ (leaf_of c.args.leaf.now) (stretch_of c.in-Literal.span) (ap leaf_of c.in-Literal.is) h) c.push.ensures.done

pub tree::emit_leaf-returns-in-Word : goal.tree::emit_leaf-returns-in-Word
tree::emit_leaf-returns-in-Word t c = on_ok_weaker c.emit_word.result (λ g. grown_operand c.args.context.dialect _ _ (leaf_of c.args.leaf.now) (shape_of c.in-Word.word) (ap leaf_of c.in-Word.is) g) c.emit_word.ensures

pub pages::emit_page-returns-in-Break : goal.pages::emit_page-returns-in-Break
pages::emit_page-returns-in-Break t c = on_ok_weaker c.emit.result (λ h. grown_break c.args.context.dialect c.args.form.now _ _ c.in-Break.is h) c.emit.ensures.done

pub pages::emit_page-returns-in-Continue : goal.pages::emit_page-returns-in-Continue
pages::emit_page-returns-in-Continue t c = on_ok_weaker c.emit-in-Continue.result (λ h. grown_continue c.args.context.dialect c.args.form.now _ _ c.in-Continue.is h) c.emit-in-Continue.ensures.done

pub pages::emit_page-returns-in_ok-push-in-Increment : goal.pages::emit_page-returns-in_ok-push-in-Increment
pages::emit_page-returns-in_ok-push-in-Increment t c = on_ok_weaker c.bump.result (λ h. grown_increment c.args.context.dialect c.args.form.now c.in-Increment.name _ _ _ c.in-Increment.is c.in_ok-push-in-Increment.ensures.done h) c.bump.ensures.done

pub script::emit_piece-emit_deeper-requires : goal.script::emit_piece-emit_deeper-requires
script::emit_piece-emit_deeper-requires t c =
    let script = chars c.in-Bracket.script.text.now in
    let whole = chars c.args.whole.now in
    let some = c.requires.1.1.0 in
    let within : length script ≤ length whole - 1 = subst (PartWithin (length whole - 1)) (part-bracket _ _ _ c.in-Bracket.is) c.requires.1.1.1.1 in
    let falls : reach (length script) + 901 < reach (length whole) + (2 * c.args.levels + 1) = omega (arith, reach_more (length script) (length whole) (omega (arith, some, within))) in
    search rules

pub pages::emit_page-returns-in_ok-emit_expression-in-Expr : goal.pages::emit_page-returns-in_ok-emit_expression-in-Expr
pages::emit_page-returns-in_ok-emit_expression-in-Expr t c = on_ok_weaker c.emit-in-Expr.result (λ h. grown_expr c.args.context.dialect c.args.form.now c.in-Expr.text _ _ _ c.in-Expr.is c.in_ok-emit_expression-in-Expr.ensures h) c.emit-in-Expr.ensures.done

pub pages::emit_page-emit_expression-requires : goal.pages::emit_page-emit_expression-requires
pages::emit_page-emit_expression-requires t c =
    let text = chars c.in-Expr.text.now in
    let whole = chars c.args.whole.now in
    let some = c.requires.1.1.0 in
    let within : length text ≤ length whole - 1 = subst (FormIsShort (length whole - 1)) c.in-Expr.is c.requires.1.1.1 in
    let falls : reach (length text) + (16 * length text + 500) < reach (length whole) + 500 = omega (arith, reach_more (length text) (length whole) (omega (arith, some, within))) in
    search rules

pub script::emit_inlined-emit_page-requires : goal.script::emit_inlined-emit_page-requires
script::emit_inlined-emit_page-requires t c = (search rules, (c.requires.1.1.1.0, form_short (length (chars c.args.whole.now) - 1) c.args.form.now (map shape_of c.args.words.now) c.requires.1.1.0 c.requires.1.1.1.1.1.1))

pub tree::emit_expression-emit_tree-requires : goal.tree::emit_expression-emit_tree-requires
tree::emit_expression-emit_tree-requires t c =
    let text = chars c.args.text.now in
    let is = parsed_tree c.args.context.dialect text _ c.in-Ok.tree c.in_ok-tree.ensures.grammar c.in-Ok.is in
    let falls : reach (length text) + (8 * weight (view c.in-Ok.tree) + 405) < reach (length text) + (16 * length text + 500) = omega (arith, light c.args.context.dialect text (view c.in-Ok.tree) is) in
    (search rules, (tree_some c.args.context.dialect text (view c.in-Ok.tree) is, tree_is_read c.args.context.dialect text (view c.in-Ok.tree) is))

pub tree::emit_expression-returns-in_ok-emit_tree-in-Ok : goal.tree::emit_expression-returns-in_ok-emit_tree-in-Ok
tree::emit_expression-returns-in_ok-emit_tree-in-Ok t c =
    on_ok_weaker c.emit.result (λ h. grown_value c.args.context.dialect _ _ _ (chars c.args.text.now) (view c.in-Ok.tree) (sym (ap result_view c.in-Ok.is) ∙ c.in_ok-tree.ensures.reading) c.in_ok-emit_tree-in-Ok.ensures h) c.emit.ensures.done

pub tree::emit_expression-returns-in-Err : goal.tree::emit_expression-returns-in-Err
tree::emit_expression-returns-in-Err t c =
    on_ok_weaker c.emit_fault.result (λ h. grown_fault c.args.context.dialect _ _ (chars c.args.text.now) (fault_view c.in-Err.fault) (sym (ap result_view c.in-Err.is) ∙ c.in_ok-tree.ensures.reading) h) c.emit_fault.ensures

pub pages::emit_page-returns-in-If : goal.pages::emit_page-returns-in-If
pages::emit_page-returns-in-If t c = on_ok_weaker c.emit_clauses.result (λ g. grown_if c.args.context.dialect c.args.form.now c.in-If.clauses c.in-If.otherwise _ _ c.in-If.is g) (rw c.deref.ensures.value at c.emit_clauses.ensures)

pub pages::emit_page-returns-in-While : goal.pages::emit_page-returns-in-While
pages::emit_page-returns-in-While t c = on_ok_weaker c.emit_loop.result (λ g. grown_while c.args.context.dialect c.args.form.now c.in-While.test c.in-While.body _ _ c.in-While.is g) c.emit_loop.ensures

pub pages::emit_page-emit_clauses-requires : goal.pages::emit_page-emit_clauses-requires
pages::emit_page-emit_clauses-requires t c =
    let n = length (chars c.args.whole.now) - 1 in
    let short = subst (FormIsShort n) c.in-If.is c.requires.1.1.1 in
    let value = c.deref.ensures.value in
    let few : length c.deref.result.now ≤ most_clauses = rw value short.0 in
    let clauses : ClausesAreShort n (map clause_of c.deref.result.now) = rw value short.1 in
    let falls : reach (length (chars c.args.whole.now)) + (405 + length c.deref.result.now) < reach (length (chars c.args.whole.now)) + 500 = omega (arith, few) in
    (search rules, (c.requires.1.1.0, (few, (clauses, short.2))))

pub pages::emit_page-emit_loop-requires : goal.pages::emit_page-emit_loop-requires
pages::emit_page-emit_loop-requires t c =
    let short = subst (FormIsShort (length (chars c.args.whole.now) - 1)) c.in-While.is c.requires.1.1.1 in
    (search rules, (c.requires.1.1.0, (short.0, (tt, short.1))))

pub pages::emit_body-returns : goal.pages::emit_body-returns
pages::emit_body-returns t c = on_ok_weaker c.emit-2.result (λ h. grown_body c.args.context.dialect _ _ _ _ (chars c.args.text.now) c.in_ok-emit.ensures.done (rw c.within.ensures at (made_code _ _ _ _ _ c.in_ok-emit_script.ensures)) h) c.emit-2.ensures.done

-- what an index past the end would give
abbrev no_clause : Clause
no_clause = record { test = record { ref_ptr = (0, 0); now = [] }; body = record { ref_ptr = (0, 0); now = [] } }

pub pages::emit_clauses-emit_expression-requires : goal.pages::emit_clauses-emit_expression-requires
pages::emit_clauses-emit_expression-requires t c =
    let xs = c.args.clauses.now in
    let whole = length (chars c.args.whole.now) in
    let first = chars (get_or xs 0 no_clause).test.now in
    let some = c.requires.1.1.0 in
    let split = first_split xs no_clause (are_some xs c.is_empty.result c.is_empty.ensures c.if-is_empty.false) in
    let short = subst (ClausesAreShort (whole - 1)) split c.requires.1.1.1.1.0 in
    let less : length first < whole = omega (arith, some, short.0) in
    let falls : reach (length first) + (16 * length first + 500) < reach whole + (405 + length xs) = omega (arith, reach_more (length first) whole less) in
    search rules

pub pages::emit_clauses-emit_body-requires : goal.pages::emit_clauses-emit_body-requires
pages::emit_clauses-emit_body-requires t c =
    let some = c.requires.1.1.0 in
    let within : length (chars c.in-Some.body.now) ≤ length (chars c.args.whole.now) - 1 = subst (λ (o : Option (Bor (List ℕ))). OtherwiseIsShort (length (chars c.args.whole.now) - 1) (option_map (λ t. chars t.now) o)) c.in-Some.is c.requires.1.1.1.1.1 in
    let falls : reach (length (chars c.in-Some.body.now)) + 901 < reach (length (chars c.args.whole.now)) + (405 + length c.args.clauses.now) = omega (arith, reach_more (length (chars c.in-Some.body.now)) (length (chars c.args.whole.now)) (omega (arith, some, within))) in
    search rules

pub pages::emit_clauses-emit_body-requires-2 : goal.pages::emit_clauses-emit_body-requires-2
pages::emit_clauses-emit_body-requires-2 t c =
    let xs = c.args.clauses.now in
    let whole = length (chars c.args.whole.now) in
    let first = chars (get_or xs 0 no_clause).body.now in
    let some = c.requires.1.1.0 in
    let split = first_split xs no_clause (are_some xs c.is_empty.result c.is_empty.ensures c.if-is_empty.false) in
    let short = subst (ClausesAreShort (whole - 1)) split c.requires.1.1.1.1.0 in
    let less : length first < whole = omega (arith, some, short.1) in
    let falls : reach (length first) + 901 < reach whole + (405 + length xs) = omega (arith, reach_more (length first) whole less) in
    search rules

pub pages::emit_clauses-emit_clauses-requires : goal.pages::emit_clauses-emit_clauses-requires
pages::emit_clauses-emit_clauses-requires t c =
    let xs = c.args.clauses.now in
    let whole = length (chars c.args.whole.now) in
    let lt = are_some xs c.is_empty.result c.is_empty.ensures c.if-is_empty.false in
    let short = subst (ClausesAreShort (whole - 1)) (first_split xs no_clause lt) c.requires.1.1.1.1.0 in
    let less = behind_less xs lt in
    let most = c.requires.1.1.1.0 in
    let falls : reach whole + (405 + length (behind_first xs)) < reach whole + (405 + length xs) = omega (arith, less) in
    let few : length (behind_first xs) ≤ most_clauses = omega (arith, less, most) in
    (search rules, (c.requires.1.1.0, (few, (short.2, c.requires.1.1.1.1.1))))

pub pages::emit_clauses-returns-in-Some : goal.pages::emit_clauses-returns-in-Some
pages::emit_clauses-returns-in-Some t c =
    on_ok_weaker c.emit_body.result (λ g. grown_last c.args.context.dialect _ _ c.args.clauses.now c.args.otherwise.now c.in-Some.body (are_none c.args.clauses.now c.is_empty.result c.is_empty.ensures c.if-is_empty.true) c.in-Some.is g) c.emit_body.ensures

pub pages::emit_clauses-returns-in-None : goal.pages::emit_clauses-returns-in-None
pages::emit_clauses-returns-in-None t c =
    on_ok_weaker c.emit_nothing.result (λ h. grown_none c.args.context.dialect _ _ c.args.clauses.now c.args.otherwise.now (are_none c.args.clauses.now c.is_empty.result c.is_empty.ensures c.if-is_empty.true) c.in-None.is h) c.emit_nothing.ensures

pub pages::emit_clauses-returns : goal.pages::emit_clauses-returns
pages::emit_clauses-returns t c =
    let xs = c.args.clauses.now in
    let split = first_split xs no_clause (are_some xs c.is_empty.result c.is_empty.ensures c.if-is_empty.false) in
    on_ok_weaker c.lead_here-2.result
    (λ h. subst (λ cs. Grown (ClausesCode c.args.context.dialect cs (option_map (λ t. chars t.now) c.args.otherwise.now)) c.args.code.now c.lead_here-2.new.code) (sym split)
    (grown_clause c.args.context.dialect _ _ _ _ _ _ _ _ (chars (get_or xs 0 no_clause).test.now) (chars (get_or xs 0 no_clause).body.now) (map clause_of (behind_first xs)) (option_map (λ t. chars t.now) c.args.otherwise.now)
    c.in_ok-emit_expression.ensures c.in_ok-emit.ensures.done c.in_ok-emit_body.ensures c.in_ok-emit-2.ensures.done (λ front back i e p. c.in_ok-lead_here.ensures front back i e (c.len-unless.ensures ∙ p)) c.in_ok-emit_clauses.ensures
    (λ front back i e p. h front back i e (c.len-past.ensures ∙ p)))) c.lead_here-2.ensures

pub pages::emit_looped-returns : goal.pages::emit_looped-returns
pages::emit_looped-returns t c =
    on_ok_weaker c.lead_here.result
    (λ h. grown_looped c.args.context.dialect _ _ _ _ _ c.args.passes c.args.gathers (chars c.args.text.now) c.in_ok-emit.ensures.done (rw c.within.ensures at (made_code _ _ _ _ _ c.in_ok-emit_script.ensures)) c.in_ok-emit_body_end.ensures (λ front back i e p. h front back i e (c.len-begin.ensures ∙ p))) c.lead_here.ensures

pub pages::emit_bodies-emit_looped-requires : goal.pages::emit_bodies-emit_looped-requires
pages::emit_bodies-emit_looped-requires t c =
    let some = c.requires.1.1.0 in
    let within = c.requires.1.1.1.1 in
    let falls : reach (length (chars c.args.body.now)) + 901 < reach (length (chars c.args.whole.now)) + 403 = omega (arith, reach_more (length (chars c.args.body.now)) (length (chars c.args.whole.now)) (omega (arith, some, within))) in
    search rules

pub pages::emit_bodies-emit_looped-requires-in-Some : goal.pages::emit_bodies-emit_looped-requires-in-Some
pages::emit_bodies-emit_looped-requires-in-Some t c =
    let some = c.requires.1.1.0 in
    let within : length (chars c.in-Some.next.now) ≤ length (chars c.args.whole.now) - 1 = subst (λ (o : Option (Bor (List ℕ))). OtherwiseIsShort (length (chars c.args.whole.now) - 1) (option_map (λ t. chars t.now) o)) c.in-Some.is c.requires.1.1.1.0 in
    let falls : reach (length (chars c.in-Some.next.now)) + 901 < reach (length (chars c.args.whole.now)) + 403 = omega (arith, reach_more (length (chars c.in-Some.next.now)) (length (chars c.args.whole.now)) (omega (arith, some, within))) in
    search rules

pub pages::emit_bodies-returns-in_ok-emit_looped-in-Some : goal.pages::emit_bodies-returns-in_ok-emit_looped-in-Some
pages::emit_bodies-returns-in_ok-emit_looped-in-Some t c =
    on_ok_weaker c.lead_here.result
    (λ h. grown_turns c.args.context.dialect _ _ _ _ _ c.args.next c.in-Some.next (chars c.args.body.now) c.in-Some.is c.in_ok-emit_looped.ensures c.in_ok-emit-in-Some.ensures.done c.in_ok-emit_looped-in-Some.ensures (λ front back i e p. h front back i e (c.len-past.ensures ∙ p))) c.lead_here.ensures

pub pages::emit_for-emit_body-requires : goal.pages::emit_for-emit_body-requires
pages::emit_for-emit_body-requires t c =
    let some = c.requires.1.1.0 in
    let start = chars c.args.texts.now.start.now in
    let within = c.requires.1.1.1.0 in
    let falls : reach (length start) + 901 < reach (length (chars c.args.whole.now)) + 405 = omega (arith, reach_more (length start) (length (chars c.args.whole.now)) (omega (arith, some, within))) in
    search rules

pub pages::emit_loop-emit_expression-requires : goal.pages::emit_loop-emit_expression-requires
pages::emit_loop-emit_expression-requires t c =
    let some = c.requires.1.1.0 in
    let within = c.requires.1.1.1.0 in
    let falls : reach (length (chars c.args.test.now)) + (16 * length (chars c.args.test.now) + 500) < reach (length (chars c.args.whole.now)) + 404 = omega (arith, reach_more (length (chars c.args.test.now)) (length (chars c.args.whole.now)) (omega (arith, some, within))) in
    search rules

pub pages::emit_loop-returns : goal.pages::emit_loop-returns
pages::emit_loop-returns t c =
    on_ok_weaker c.emit_nothing.result
    (λ h. grown_loop c.args.context.dialect _ _ _ _ _ _ _ _ _ _ _ (option_map (λ t. chars t.now) c.args.next) (chars c.args.test.now) (chars c.args.body.now) c.in_ok-emit.ensures.done c.in_ok-emit_bodies.ensures c.in_ok-emit-2.ensures.done
    (λ front back i e p. c.in_ok-lead_here.ensures front back i e (c.len-to_test.ensures ∙ p)) c.in_ok-emit_expression.ensures c.in_ok-emit-3.ensures.done c.in_ok-emit_turn.ensures (ap (λ n. n - c.len-begin.result) c.len.ensures ∙ ap (λ n. length c.emit-3.new.self - n) c.len-begin.ensures)
    (λ front back i e p. c.in_ok-lead_here-2.ensures front back i e (c.len-out.ensures ∙ p)) h) c.emit_nothing.ensures

pub pages::emit_for-returns : goal.pages::emit_for-returns
pages::emit_for-returns t c = on_ok_weaker c.emit_loop.result (λ h. grown_whole_for c.args.context.dialect _ _ _ c.args.texts.now c.in_ok-emit_body.ensures h) c.emit_loop.ensures

pub each::emit_each-words-preserved : goal.each::emit_each-words-preserved
each::emit_each-words-preserved t c =
    let ws = map shape_of c.args.words.now in
    let lt : c.words.word-index < length ws = omega (arith, length-map c.args.words.now shape_of) in
    let at = map_at shape_of c.args.words.now c.words.word-index c.word-item.result c.word-item.is in
    let i = c.words.invariant in
    record {
      leads = told_leads c.args.context.dialect ws c.words.word-index (shape_of c.word-item.result) _ c.words.code _ (plain_at ws c.words.word-index (shape_of c.word-item.result) i.plain lt at) lt at i.leads c.in_ok-emit_word.ensures;
      each = i.each;
      plain = i.plain;
      some = i.some;
      nests = i.nests;
      within = i.within;
      short = i.short;
    }

pub each::emit_each-emit_word-requires : goal.each::emit_each-emit_word-requires
each::emit_each-emit_word-requires t c =
    let ws = map shape_of c.args.words.now in
    let lt : c.words.word-index < length ws = omega (arith, length-map c.args.words.now shape_of) in
    let at = map_at shape_of c.args.words.now c.words.word-index c.word-item.result c.word-item.is in
    let nests : PartsNest most_levels (parts_of (map part_of c.word-item.result.pieces.items)) = words_nest_at most_levels ws c.words.word-index (shape_of c.word-item.result) c.words.invariant.nests lt at in
    let within : PartsWithin (length (chars c.args.whole.now) - 1) (parts_of (map part_of c.word-item.result.pieces.items)) = words_within_at (length (chars c.args.whole.now) - 1) ws c.words.word-index (shape_of c.word-item.result) c.words.invariant.within lt at in
    search rules

pub each::emit_each-emit_turns-requires : goal.each::emit_each-emit_turns-requires
each::emit_each-emit_turns-requires t c =
    let whole = chars c.args.whole.now in
    let body = text_of c.args.each.now.body in
    let i = c.words.invariant in
    let some = i.some in
    let short = each_short (length whole - 1) c.args.each.now.gathers (map texts.text_of c.args.each.now.names.items) body (map shape_of c.args.words.now) i.each i.short in
    let falls : reach (length body) + 902 < reach (length whole) + 404 = omega (arith, reach_more (length body) (length whole) (omega (arith, some, short))) in
    search rules

pub each::emit_each-returns : goal.each::emit_each-returns
each::emit_each-returns t c =
    let ws = map shape_of c.args.words.now in
    let n = length-map c.args.words.now shape_of in
    on_ok_weaker c.lead_here-2.result
    (λ h. grown_each c.args.context.dialect c.args.each.now ws c.words.word-index _ _ c.words.code _ _ _ _ _ _ c.words.invariant.each (omega (arith, n)) (sym n) c.words.invariant.leads (rw c.command_of.ensures at c.in_ok-emit.ensures.done) c.in_ok-emit_turns.ensures c.in_ok-emit-2.ensures.done
    (λ front back i e p. c.in_ok-lead_here.ensures front back i e (c.len-guard.ensures ∙ p)) c.in_ok-emit_call.ensures (λ front back i e p. h front back i e (c.len-past.ensures ∙ p))) c.lead_here-2.ensures

pub each::emit_turns-returns : goal.each::emit_turns-returns
each::emit_turns-returns t c =
    let each = c.args.each.now in
    on_ok_weaker c.emit_end.result
    (λ h. grown_each_turns c.args.context.dialect _ _ _ _ _ _ _ _ _ _ _ _ each.gathers c.args.count _ (map texts.text_of each.names.items) (text_of each.body) c.in_ok-emit_begin.ensures c.in_ok-emit_deal.ensures c.in_ok-emit.ensures.done (rw c.as_slice.ensures.value at c.in_ok-emit_names.ensures)
    (rw c.as_str.ensures at c.in_ok-emit_looped.ensures) c.in_ok-emit-2.ensures.done (λ front back i e p. c.in_ok-lead_here.ensures front back i e (c.len-to_more.ensures ∙ p)) c.in_ok-emit-3.ensures.done c.in_ok-emit_turn.ensures
    (ap (λ n. n - c.len-begin.result) c.len.ensures ∙ ap (λ n. length c.emit-3.new.self - n) c.len-begin.ensures) c.in_ok-emit-4.ensures.done h) c.emit_end.ensures

pub script::emit_command-returns-then-any_expands : goal.script::emit_command-returns-then-any_expands
script::emit_command-returns-then-any_expands t c =
    let ws = map shape_of c.args.words.now in
    on_ok_weaker c.emit_gathered.result (λ g. made_without c.args.context.dialect c.args.context.outermost ws _ _ (λ o w. c.any_expands.ensures.expands c.if-any_expands.true (loop_plain ws w)) g) c.emit_gathered.ensures

pub script::emit_command-returns-in-Some : goal.script::emit_command-returns-in-Some
script::emit_command-returns-in-Some t c =
    let ws = map shape_of c.args.words.now in
    let is = of_some (λ x. IsChange x.0 (chars x.1.now) ws) c.change_of.result (c.in-Some.change, c.in-Some.name) c.in-Some.is c.change_of.ensures in
    on_ok_weaker c.emit_changed.result (λ g. made_without c.args.context.dialect c.args.context.outermost ws _ _ (λ o. no_change c.in-Some.change (chars c.in-Some.name.now) ws is) g) c.emit_changed.ensures

pub script::emit_command-returns-in-Some-2 : goal.script::emit_command-returns-in-Some-2
script::emit_command-returns-in-Some-2 t c =
    let ws = map shape_of c.args.words.now in
    let is = of_some (λ f. IsEach f ws) c.in_ok-each.field-0 c.in-Some-2.each c.in-Some-2.is c.in_ok-each.ensures in
    on_ok_weaker c.emit_each.result (λ g. made_without c.args.context.dialect c.args.context.outermost ws _ _ (λ o. no_each c.in-Some-2.each.gathers (map texts.text_of c.in-Some-2.each.names.items) (text_of c.in-Some-2.each.body) ws is) g) (rw c.in_ok-foresee_body.ensures at c.emit_each.ensures)

pub script::emit_named-returns-in-Some : goal.script::emit_named-returns-in-Some
script::emit_named-returns-in-Some t c =
    let all = of_some (λ ls. AllLiteral _ (map text_of ls.items)) c.in_ok-literals.field-0 c.in-Some.literals c.in-Some.is c.in_ok-literals.ensures.literal in
    let two : IsWhile (map shape_of c.args.words.now) → length c.as_slice.result.now ≡ 2 = λ w. ap length c.as_slice.ensures.value ∙ sym (length-map c.in-Some.literals.items text_of) ∙ loop_long shape_of c.args.words.now (map text_of c.in-Some.literals.items) w all in
    on_ok_weaker c.emit_plain.result
    (λ g. made_without c.args.context.dialect c.args.context.outermost (map shape_of c.args.words.now) _ _ (λ o w. false≢true (subst (λ r. IsSome r) c.in-None-2.is (c.in_ok-form-in-Some.ensures.whiles o (c.requires.1.1.1.0 w) (two w)))) g) c.emit_plain.ensures

pub script::emit_command-returns-in-Some-3 : goal.script::emit_command-returns-in-Some-3
script::emit_command-returns-in-Some-3 t c =
    let ws = map shape_of c.args.words.now in
    let is = of_some (λ f. IsSwitch f ws) c.in_ok-form.field-0 c.in-Some-3.form c.in-Some-3.is c.in_ok-form.ensures in
    on_ok_weaker c.emit_switch.result (λ g. made_without c.args.context.dialect c.args.context.outermost ws _ _ (λ o. no_switch c.in-Some-3.form ws is) g) (rw c.in_ok-foresee_body-2.ensures at c.emit_switch.ensures)

pub switching::emit_arm-returns : goal.switching::emit_arm-returns
switching::emit_arm-returns t c = on_ok_weaker c.emit_body.result (λ g. grown_arm c.args.context.dialect _ _ _ (chars c.args.body.now) c.in_ok-emit.ensures.done g) c.emit_body.ensures

pub switching::emit_arms-returns-then-arms-lt2 : goal.switching::emit_arms-returns-then-arms-lt2
switching::emit_arms-returns-then-arms-lt2 t c =
    let arms = map texts.text_of c.args.arms.now in
    let few : length arms < 2 = omega (arith, length-map c.args.arms.now texts.text_of, c.if-arms-lt2.true) in
    on_ok_weaker c.emit_nothing.result (λ h. grown_no_arms c.args.context.dialect _ _ _ arms few c.requires.1.1.1.1.0 c.in_ok-emit.ensures.done h) c.emit_nothing.ensures

pub switching::emit_arms-emit_arm-requires : goal.switching::emit_arms-emit_arm-requires
switching::emit_arms-emit_arm-requires t c =
    let xs = c.args.arms.now in
    let whole = length (chars c.args.whole.now) in
    let some = c.requires.1.1.0 in
    let long : 2 ≤ length xs = omega (arith, c.if-arms-lt2.false) in
    let short = short_at texts.text_of (whole - 1) xs c.index-arms-1.result long c.index-arms-1.is c.requires.1.1.1.1.1 in
    let body = chars c.as_str.result.now in
    let within : length body < whole = omega (arith, some, short, ap (λ b. length (chars b)) c.as_str.ensures.value) in
    let falls : reach (length body) + 902 < reach whole + (405 + length xs) = omega (arith, reach_more (length body) whole within) in
    search rules

pub switching::emit_arms-emit_arm-requires-2 : goal.switching::emit_arms-emit_arm-requires-2
switching::emit_arms-emit_arm-requires-2 t c =
    let xs = c.args.arms.now in
    let whole = length (chars c.args.whole.now) in
    let some = c.requires.1.1.0 in
    let long : 2 ≤ length xs = omega (arith, c.if-arms-lt2.false) in
    let short = short_at texts.text_of (whole - 1) xs c.index-arms-1-2.result long c.index-arms-1-2.is c.requires.1.1.1.1.1 in
    let body = chars c.as_str-3.result.now in
    let within : length body < whole = omega (arith, some, short, ap (λ b. length (chars b)) c.as_str-3.ensures.value) in
    let falls : reach (length body) + 902 < reach whole + (405 + length xs) = omega (arith, reach_more (length body) whole within) in
    search rules

pub switching::emit_arms-returns-then-is_default : goal.switching::emit_arms-returns-then-is_default
switching::emit_arms-returns-then-is_default t c =
    let xs = c.args.arms.now in
    let long : 2 ≤ length xs = omega (arith, c.if-arms-lt2.false) in
    on_ok_weaker c.emit_arm.result
    (λ g. grown_default c.args.context.dialect texts.text_of xs c.index-arms-1.result _ _ long c.index-arms-1.is c.requires.1.1.1.1.0 (sym c.is_default.ensures ∙ c.if-is_default.true)
    (subst (λ b. Grown (ArmCode c.args.context.dialect (chars b)) c.args.code.now c.emit_arm.new.code) c.as_str.ensures.value g)) c.emit_arm.ensures

pub switching::emit_arms-emit_arms-requires : goal.switching::emit_arms-emit_arms-requires
switching::emit_arms-emit_arms-requires t c =
    let xs = c.args.arms.now in
    let whole = length (chars c.args.whole.now) in
    let long : 2 ≤ length xs = omega (arith, c.if-arms-lt2.false) in
    let few = c.requires.1.1.1.0 in
    let arms : AreArms (map texts.text_of (take (length xs - 2) (drop 2 xs))) = subst (λ l. AreArms (map texts.text_of l)) (sym (rest_is 2 xs)) (arms_behind texts.text_of xs long c.requires.1.1.1.1.0) in
    let short : TextsAreShort (whole - 1) (map texts.text_of (take (length xs - 2) (drop 2 xs))) = subst (λ l. TextsAreShort (whole - 1) (map texts.text_of l)) (sym (rest_is 2 xs)) (short_behind texts.text_of (whole - 1) xs c.requires.1.1.1.1.1) in
    let less : length (take (length xs - 2) (drop 2 xs)) < length xs = omega (arith, long, ap length (rest_is 2 xs), length-drop 2 xs) in
    let falls : reach whole + (405 + length (take (length xs - 2) (drop 2 xs))) < reach whole + (405 + length xs) = omega (arith, less) in
    let fewer : length (take (length xs - 2) (drop 2 xs)) ≤ most_arm_texts = omega (arith, less, few) in
    (search rules, (c.requires.1.1.0, (fewer, (arms, short))))

pub switching::emit_arms-returns : goal.switching::emit_arms-returns
switching::emit_arms-returns t c =
    let xs = c.args.arms.now in
    let long : 2 ≤ length xs = omega (arith, c.if-arms-lt2.false) in
    on_ok_weaker c.lead_here-2.result
    (λ h. grown_tested c.args.context.dialect texts.text_of xs c.index-arms-0.result c.index-arms-1-2.result _ _ _ _ _ _ _ _ long c.index-arms-0.is c.index-arms-1-2.is c.requires.1.1.1.1.0 (sym c.is_default.ensures ∙ c.if-is_default.false)
    (c.in_ok-emit_test.ensures ∙ ap (λ b. c.args.code.now ++ testing (chars b)) c.as_str-2.ensures.value) c.in_ok-emit-2.ensures.done (subst (λ b. Grown (ArmCode c.args.context.dialect (chars b)) c.emit-2.new.self c.emit_arm-2.new.code) c.as_str-3.ensures.value c.in_ok-emit_arm.ensures) c.in_ok-emit-3.ensures.done
    (λ front back i e p. c.in_ok-lead_here.ensures front back i e (c.len-unless.ensures ∙ p)) (subst (λ l. Grown (ArmsCode c.args.context.dialect (map texts.text_of l)) c.lead_here.new.code c.emit_arms.new.code) (rest_is 2 xs) c.in_ok-emit_arms.ensures)
    (λ front back i e p. h front back i e (c.len-past.ensures ∙ p))) c.lead_here-2.ensures

pub switching::emit_switch-emit_arms-requires : goal.switching::emit_switch-emit_arms-requires
switching::emit_switch-emit_arms-requires t c =
    let f = c.args.form.now in
    let ws = map shape_of c.args.words.now in
    let whole = length (chars c.args.whole.now) in
    let is = c.requires.1.1.0 in
    let value = c.as_slice.ensures.value in
    let few : length f.arms.items ≤ most_arm_texts = omega (arith, is.2.2, length-map f.arms.items texts.text_of) in
    let fewer : length c.as_slice.result.now ≤ most_arm_texts = rw value few in
    let arms : AreArms (map texts.text_of c.as_slice.result.now) = rw value is.2.1 in
    let short : TextsAreShort (whole - 1) (map texts.text_of c.as_slice.result.now) = rw value (switch_short (whole - 1) f ws is c.requires.1.1.1.1.1.1) in
    let falls : reach whole + (405 + length c.as_slice.result.now) < reach whole + 602 = omega (arith, fewer) in
    (search rules, (c.requires.1.1.1.0, (fewer, (arms, short))))

pub switching::emit_switch-returns : goal.switching::emit_switch-returns
switching::emit_switch-returns t c =
    let ws = map shape_of c.args.words.now in
    let w = shape_of c.index-words-words.result in
    let at = map_at shape_of c.args.words.now (length c.args.words.now - 2) c.index-words-words.result c.index-words-words.is in
    let there : w ≡ get_or ws (length ws - 2) w = subst (λ n. w ≡ get_or ws (n - 2) w) (sym (length-map c.args.words.now shape_of)) at in
    on_ok_weaker c.lead_here-2.result
    (λ h. grown_switch c.args.context.dialect c.args.form.now ws w _ _ _ _ _ _ _ _ c.requires.1.1.0 there c.in_ok-emit_word.ensures c.in_ok-emit.ensures.done (rw c.as_slice.ensures.value at c.in_ok-emit_arms.ensures) c.in_ok-emit-2.ensures.done
    (λ front back i e p. c.in_ok-lead_here.ensures front back i e (c.len-guard.ensures ∙ p)) (rw c.as_str.ensures at c.in_ok-emit_general.ensures) (λ front back i e p. h front back i e (c.len-past.ensures ∙ p))) c.lead_here-2.ensures

pub script::emit_command-returns-then-is_return : goal.script::emit_command-returns-then-is_return
script::emit_command-returns-then-is_return t c =
    let ws = map shape_of c.args.words.now in
    let is = c.is_return.ensures c.if-is_return.true in
    on_ok_weaker c.emit_returned.result (λ g. made_without c.args.context.dialect c.args.context.outermost ws _ _ (λ o. no_return ws is) g) c.emit_returned.ensures

pub leaving::emit_returned-returns : goal.leaving::emit_returned-returns
leaving::emit_returned-returns t c =
    let ws = map shape_of c.args.words.now in
    let at = map_at shape_of c.args.words.now 1 c.index-words-1.result c.index-words-1.is in
    on_ok_weaker c.emit_return.result (λ h. grown_return c.args.context.dialect ws (shape_of c.index-words-1.result) _ _ _ c.requires.1.1.0 at c.in_ok-emit_word.ensures h) c.emit_return.ensures
