use Rattle.std.proofs.Common.{◌≡◌, ◌∷◌, ◌++◌, [], map, rules, ◌∙◌, ap, Ok}
use Rattle.std.proofs.lemmas.List.{map_push}
use Rattle.std.specs.Str.{chars}
use Rattle.tcl_chars.specs.Reading.{all_turns}
use Rattle.tcl_chars.proofs.Turns.{goes_on, is_done, shorter}
use Rattle.tcl_words.specs.Parts.{part_of}
use Rattle.tcl_words.specs.Words.{verbatim_at}
use Rattle.tcl_chars.proofs.Ends.{forward_shrinks}
use Rattle.tcl_words.proofs.Forward.{verbatim_forward}
use Rattle.tcl_words.proofs.Verbatim.{stops_at_end}
use Rattle.tcl_words.proofs.braces.verbatim_pieces.Goals as goal

pub returns-in-None : goal.returns-in-None
returns-in-None c =
    let step = verbatim_at c.args.size in
    let last = rw c.in-None.is at c.next_verbatim-piece.ensures in
    let e = is_done step (map part_of c.pieces.pieces.items) (chars c.pieces.rest.now) (chars c.next_verbatim-piece.result.1.now) (all_turns step (chars c.args.text.now)) last c.pieces.invariant.same in
    e ∙ ap (λ t. Ok (map part_of c.pieces.pieces.items, t)) (stops_at_end c.args.size (chars c.pieces.rest.now) (chars c.next_verbatim-piece.result.1.now) last)

pub pieces-smaller : goal.pieces-smaller
pieces-smaller c =
    let step = verbatim_at c.args.size in
    let more = rw c.in-Some.is at c.next_verbatim-piece.ensures in
    shorter step (chars c.pieces.rest.now) _ (chars c.next_verbatim-piece.result.1.now) (forward_shrinks step (verbatim_forward c.args.size)) more

pub pieces-preserved : goal.pieces-preserved
pieces-preserved c =
    let step = verbatim_at c.args.size in
    let more = rw c.in-Some.is at c.next_verbatim-piece.ensures in
    let pushed : map part_of c.push.new.self.items ≡ map part_of c.pieces.pieces.items ++ part_of c.in-Some.piece ∷ [] = rw c.in_ok-push-in-Some.ensures.items (map_push part_of c.pieces.pieces.items c.in-Some.piece) in
    record {
      text = search rules;
      same = rw pushed (goes_on step (map part_of c.pieces.pieces.items) (chars c.pieces.rest.now) _ (chars c.next_verbatim-piece.result.1.now) (all_turns step (chars c.args.text.now)) (forward_shrinks step (verbatim_forward c.args.size)) more c.pieces.invariant.same);
    }
