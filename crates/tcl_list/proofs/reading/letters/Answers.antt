use Rattle.std.proofs.Common.{Ok, sym, ap, ◌∙◌, rules}
use Rattle.std.specs.Str.{chars}
use Rattle.std.specs.String.{string_bytes}
use Rattle.std.proofs.lemmas.Str.{chars-nil}
use Rattle.tcl_chars.specs.Reading.{with_front, all_turns}
use Rattle.tcl_chars.proofs.Turns.{with_no_front, goes_on, is_done, shorter}
use Rattle.tcl_list.specs.Elements.{letter, letters}
use Rattle.tcl_list.proofs.Forward.{letter_shrinks}
use Rattle.tcl_list.proofs.reading.letters.Goals as goal

pub letters-init : goal.letters-init
letters-init c = record {
  text = c.utf8.text;
  same = ap (λ t. with_front t (all_turns (letter c.args.end) (chars c.args.text.now))) (ap chars c.new-said.ensures.bytes ∙ chars-nil) ∙ with_no_front _;
}

pub returns-in-None : goal.returns-in-None
unfolding letters
returns-in-None c =
    let last = rw c.in-None.is at c.letter-next.ensures in
    is_done (letter c.args.end) (chars (string_bytes c.letters.said)) (chars c.letters.rest.now) (chars c.letter-next.result.1.now) (all_turns (letter c.args.end) (chars c.args.text.now)) last c.letters.invariant.same
    ∙ ap (λ t. Ok (t, chars c.letter-next.result.1.now)) (sym (ap chars c.in_ok-from_string-in-None.ensures.ok))

pub letters-smaller : goal.letters-smaller
letters-smaller c =
    let more = rw c.in-Some.is at c.letter-next.ensures in
    shorter (letter c.args.end) (chars c.letters.rest.now) _ (chars c.letter-next.result.1.now) (letter_shrinks c.args.end) more

pub letters-preserved : goal.letters-preserved
letters-preserved c =
    let more = rw c.in-Some.is at c.letter-next.ensures in
    record {
      text = search rules;
      same = rw c.in_ok-push-in-Some.ensures.ok (goes_on (letter c.args.end) (chars (string_bytes c.letters.said)) (chars c.letters.rest.now) _ (chars c.letter-next.result.1.now) (all_turns (letter c.args.end) (chars c.args.text.now)) (letter_shrinks c.args.end) more c.letters.invariant.same);
    }
