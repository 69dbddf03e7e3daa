use Rattle.std.proofs.Common.{◌≤◌, ◌+◌, ◌-◌, ◌*◌, ◌<◌, drop, length, map}
use denote.Text.{Utf8}
use denote.Shadow.{shadow}
use Rattle.std.specs.Str.{chars}
use Rattle.tcl_expr.specs.Machine.{args_of, rest_of}
use Rattle.tcl_expr.specs.View.{step_of, view}
use Rattle.tcl_words.specs.Parts.{shape_of, part_of, parts_of}
use Rattle.tcl_meaning.specs.Nesting.{PartsNest, WordsNest}
use Rattle.tcl_words.specs.First.{most_levels}
use Rattle.tcl_compile.specs.Eaches.{IsEach, TextsLeft}
use Rattle.tcl_compile.specs.Emitted.{PiecesLeft, WordsLeft, GatheredLeft}
use Rattle.tcl_compile.specs.Fragments.{Leads, Plain, Begun}
use Rattle.tcl_compile.specs.Literals.{text_of}
use Rattle.tcl_compile.specs.Trees.{ArgsLeft, RestCode, ArgsAreRead, RestIsRead}
use Rattle.tcl_compile.specs.Whiles.{ScriptMade}
use Rattle.tcl_compile.specs.Within.{ArgumentsAreShort, PartsWithin, WordsWithin}
use Rattle.tcl_compile.proofs.Weights.{reach, weight, weight_args, weight_rest}
use Rattle.tcl_compile.proofs.+emitting.Given as goal

-- the length of the text, the nodes of a tree, and then the calls in their order
abbrev pub decreases-script::emit_script : goal.decreases-script::emit_script
decreases-script::emit_script l = reach (length (chars l.text.now)) + 900

abbrev pub decreases-script::emit_deeper : goal.decreases-script::emit_deeper
decreases-script::emit_deeper l = reach (length (chars l.text.now)) + 901

abbrev pub decreases-script::emit_piece : goal.decreases-script::emit_piece
decreases-script::emit_piece l = reach (length (chars l.whole.now)) + (2 * l.levels + 1)

abbrev pub decreases-script::emit_pieces : goal.decreases-script::emit_pieces
decreases-script::emit_pieces l = reach (length (chars l.whole.now)) + (2 * l.levels + 2)

abbrev pub decreases-script::emit_word : goal.decreases-script::emit_word
decreases-script::emit_word l = reach (length (chars l.whole.now)) + (2 * most_levels + 3)

abbrev pub decreases-script::emit_plain : goal.decreases-script::emit_plain
decreases-script::emit_plain l = reach (length (chars l.whole.now)) + 404

abbrev pub decreases-script::emit_beside : goal.decreases-script::emit_beside
decreases-script::emit_beside l = reach (length (chars l.whole.now)) + 405

abbrev pub decreases-script::emit_changed : goal.decreases-script::emit_changed
decreases-script::emit_changed l = reach (length (chars l.whole.now)) + 404

abbrev pub decreases-script::emit_gathered : goal.decreases-script::emit_gathered
decreases-script::emit_gathered l = reach (length (chars l.whole.now)) + 404

abbrev pub decreases-pages::emit_page : goal.decreases-pages::emit_page
decreases-pages::emit_page l = reach (length (chars l.whole.now)) + 500

abbrev pub decreases-pages::emit_body : goal.decreases-pages::emit_body
decreases-pages::emit_body l = reach (length (chars l.text.now)) + 901

abbrev pub decreases-pages::emit_clauses : goal.decreases-pages::emit_clauses
decreases-pages::emit_clauses l = reach (length (chars l.whole.now)) + (405 + length l.clauses.now)

abbrev pub decreases-pages::emit_loop : goal.decreases-pages::emit_loop
decreases-pages::emit_loop l = reach (length (chars l.whole.now)) + 404

abbrev pub decreases-pages::emit_looped : goal.decreases-pages::emit_looped
decreases-pages::emit_looped l = reach (length (chars l.text.now)) + 901

abbrev pub decreases-pages::emit_bodies : goal.decreases-pages::emit_bodies
decreases-pages::emit_bodies l = reach (length (chars l.whole.now)) + 403

abbrev pub decreases-pages::emit_for : goal.decreases-pages::emit_for
decreases-pages::emit_for l = reach (length (chars l.whole.now)) + 405

abbrev pub decreases-each::emit_each : goal.decreases-each::emit_each
decreases-each::emit_each l = reach (length (chars l.whole.now)) + 404

abbrev pub decreases-each::emit_turns : goal.decreases-each::emit_turns
decreases-each::emit_turns l = reach (length (text_of l.each.now.body)) + 902

abbrev pub decreases-leaving::emit_returned : goal.decreases-leaving::emit_returned
decreases-leaving::emit_returned l = reach (length (chars l.whole.now)) + 404

abbrev pub decreases-switching::emit_switch : goal.decreases-switching::emit_switch
decreases-switching::emit_switch l = reach (length (chars l.whole.now)) + 602

abbrev pub decreases-switching::emit_arms : goal.decreases-switching::emit_arms
decreases-switching::emit_arms l = reach (length (chars l.whole.now)) + (405 + length l.arms.now)

abbrev pub decreases-switching::emit_arm : goal.decreases-switching::emit_arm
decreases-switching::emit_arm l = reach (length (chars l.body.now)) + 902

abbrev pub decreases-script::emit_inlined : goal.decreases-script::emit_inlined
decreases-script::emit_inlined l = reach (length (chars l.whole.now)) + 501

abbrev pub decreases-script::emit_command : goal.decreases-script::emit_command
decreases-script::emit_command l = reach (length (chars l.whole.now)) + 603

abbrev pub decreases-script::emit_named : goal.decreases-script::emit_named
decreases-script::emit_named l = reach (length (chars l.whole.now)) + 502

abbrev pub decreases-tree::emit_expression : goal.decreases-tree::emit_expression
decreases-tree::emit_expression l = reach (length (chars l.text.now)) + (16 * length (chars l.text.now) + 500)

abbrev pub decreases-tree::emit_leaf : goal.decreases-tree::emit_leaf
decreases-tree::emit_leaf l = reach (length (chars l.whole.now)) + 404

abbrev pub decreases-tree::emit_tree : goal.decreases-tree::emit_tree
decreases-tree::emit_tree l = reach (length (chars l.whole.now)) + (8 * weight (view l.tree.now) + 405)

abbrev pub decreases-tree::emit_call : goal.decreases-tree::emit_call
decreases-tree::emit_call l = reach (length (chars l.whole.now)) + (8 * weight_args (args_of (map view l.arguments.now)) + 406)

abbrev pub decreases-tree::emit_rest : goal.decreases-tree::emit_rest
decreases-tree::emit_rest l = reach (length (chars l.whole.now)) + (8 * weight_rest (rest_of (map step_of l.rest.now)) + 409)

abbrev pub decreases-tree::emit_step : goal.decreases-tree::emit_step
decreases-tree::emit_step l = reach (length (chars l.whole.now)) + (8 * weight (view l.right.now) + 407)

abbrev pub decreases-tree::emit_eager : goal.decreases-tree::emit_eager
decreases-tree::emit_eager l = reach (length (chars l.whole.now)) + (8 * weight (view l.right.now) + 406)

abbrev pub decreases-tree::emit_lazy : goal.decreases-tree::emit_lazy
decreases-tree::emit_lazy l = reach (length (chars l.whole.now)) + (8 * weight (view l.right.now) + 406)

abbrev pub invariant-script::emit_script-commands : goal.invariant-script::emit_script-commands
invariant-script::emit_script-commands l = shadow (Utf8 l.rest) × record {
  leads : Leads (ScriptMade l.fn.context.dialect l.fn.context.outermost (chars l.rest)) (ScriptMade l.fn.context.dialect l.fn.context.outermost (chars l.fn.text)) l.fn.code l.code;
  shorter : length (chars l.rest) ≤ length (chars l.fn.text);
}

abbrev pub decreases-script::emit_script-commands : goal.decreases-script::emit_script-commands
decreases-script::emit_script-commands l = length (chars l.rest)

abbrev pub invariant-script::emit_plain-words : goal.invariant-script::emit_plain-words
invariant-script::emit_plain-words l = record {
  leads : Leads (WordsLeft l.fn.context.dialect (length (map shape_of l.words)) (drop l.word-index (map shape_of l.words))) (WordsLeft l.fn.context.dialect (length (map shape_of l.words)) (map shape_of l.words)) l.fn.code l.code;
  plain : Plain (map shape_of l.words);
  some : 0 < length (chars l.whole);
  nests : WordsNest most_levels (map shape_of l.words);
  within : WordsWithin (length (chars l.whole) - 1) (map shape_of l.words);
}

abbrev pub invariant-each::emit_each-words : goal.invariant-each::emit_each-words
invariant-each::emit_each-words l = record {
  leads : Leads (TextsLeft l.fn.context.dialect (map shape_of l.words) (drop l.word-index (map shape_of l.words))) (TextsLeft l.fn.context.dialect (map shape_of l.words) (map shape_of l.words)) l.fn.code l.code;
  each : IsEach l.each (map shape_of l.words);
  plain : Plain (map shape_of l.words);
  some : 0 < length (chars l.whole);
  nests : WordsNest most_levels (map shape_of l.words);
  within : WordsWithin (length (chars l.whole) - 1) (map shape_of l.words);
  short : ArgumentsAreShort (length (chars l.whole) - 1) (map shape_of l.words);
}

abbrev pub invariant-script::emit_gathered-words : goal.invariant-script::emit_gathered-words
invariant-script::emit_gathered-words l = record {
  begun : Begun (λ c. Leads (GatheredLeft l.fn.context.dialect (drop l.word-index (map shape_of l.words))) (GatheredLeft l.fn.context.dialect (map shape_of l.words)) c l.code) l.fn.code;
  some : 0 < length (chars l.whole);
  nests : WordsNest most_levels (map shape_of l.words);
  within : WordsWithin (length (chars l.whole) - 1) (map shape_of l.words);
}

abbrev pub invariant-script::emit_pieces-pieces : goal.invariant-script::emit_pieces-pieces
invariant-script::emit_pieces-pieces l = record {
  leads : Leads (PiecesLeft l.fn.context.dialect (length (map part_of l.pieces)) (drop l.piece-index (map part_of l.pieces))) (PiecesLeft l.fn.context.dialect (length (map part_of l.pieces)) (map part_of l.pieces)) l.fn.code l.code;
  some : 0 < length (chars l.whole);
  nests : PartsNest l.levels (parts_of (map part_of l.pieces));
  within : PartsWithin (length (chars l.whole) - 1) (parts_of (map part_of l.pieces));
}

abbrev pub invariant-tree::emit_call-arguments : goal.invariant-tree::emit_call-arguments
invariant-tree::emit_call-arguments l = record {
  leads : Leads (ArgsLeft l.fn.context.dialect l.fn.function (length l.arguments) (args_of (drop l.argument-index (map view l.arguments)))) (ArgsLeft l.fn.context.dialect l.fn.function (length l.arguments) (args_of (map view l.arguments))) l.fn.code l.code;
  some : 0 < length (chars l.whole);
  read : ArgsAreRead (length (chars l.whole) - 1) (args_of (map view l.arguments));
}

abbrev pub invariant-tree::emit_rest-parts : goal.invariant-tree::emit_rest-parts
invariant-tree::emit_rest-parts l = record {
  leads : Leads (RestCode l.fn.context.dialect (rest_of (drop l.part-index (map step_of l.rest)))) (RestCode l.fn.context.dialect (rest_of (map step_of l.rest))) l.fn.code l.code;
  some : 0 < length (chars l.whole);
  read : RestIsRead (length (chars l.whole) - 1) (rest_of (map step_of l.rest));
}
