use Rattle.std.proofs.Common.{◌≡◌, ◌∷◌, ◌++◌, [], map, rules}
use Rattle.std.proofs.lemmas.List.{map_push}
use Rattle.std.proofs.lemmas.Result.{err_from_is_err_and}
use Rattle.std.specs.Str.{chars}
use Rattle.tcl_chars.specs.Reading.{all_turns}
use Rattle.tcl_chars.proofs.Turns.{goes_on, shorter}
use Rattle.tcl_list.specs.Elements.{next_element}
use Rattle.tcl_list.specs.Texts.{text_of, in_characters}
use Rattle.tcl_list.proofs.Forward.{next_shrinks}
use Rattle.tcl_list.proofs.Parts.{list_stops, list_done}
use Rattle.tcl_list.proofs.reading.elements.Goals as goal

pub returns-in_err-element : goal.returns-in_err-element
returns-in_err-element c =
    let p = err_from_is_err_and c.from_residual.result c.from_residual.ensures.1 in
    rw (p.1, p.2) (list_stops (in_characters c.in_err-element.field-0.0) (map text_of c.elements.elements.items) (chars c.elements.rest.now) (chars c.args.text.now) c.in_err-element.ensures c.elements.invariant.same)

pub returns-in-None : goal.returns-in-None
returns-in-None c =
    let last = rw c.in-None.is at c.in_ok-element.ensures in
    list_done (map text_of c.elements.elements.items) (chars c.elements.rest.now) (chars c.in_ok-element.after.now) (chars c.args.text.now) last c.elements.invariant.same

pub elements-smaller : goal.elements-smaller
elements-smaller c =
    let more = rw c.in-Some.is at c.in_ok-element.ensures in
    shorter next_element (chars c.elements.rest.now) _ (chars c.in_ok-element.after.now) next_shrinks more

pub elements-preserved : goal.elements-preserved
elements-preserved c =
    let more = rw c.in-Some.is at c.in_ok-element.ensures in
    let pushed : map text_of c.push.new.self.items ≡ map text_of c.elements.elements.items ++ text_of c.in-Some.element ∷ [] = rw c.in_ok-push-in-Some.ensures.items (map_push text_of c.elements.elements.items c.in-Some.element) in
    record {
      text = search rules;
      same = rw pushed (goes_on next_element (map text_of c.elements.elements.items) (chars c.elements.rest.now) _ (chars c.in_ok-element.after.now) (all_turns next_element (chars c.args.text.now)) next_shrinks more c.elements.invariant.same);
    }
