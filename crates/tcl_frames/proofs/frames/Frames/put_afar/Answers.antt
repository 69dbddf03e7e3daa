use Rattle.std.proofs.Common.{ap, ◌∙◌}
use Rattle.std.specs.Str.{chars}
use Rattle.tcl_meaning.specs.Variables.{put_part, put_change, stored}
use Rattle.tcl_frames.specs.Parts.{part_of}
use Rattle.tcl_frames.specs.Places.{spot}
use Rattle.tcl_frames.specs.Standing.{store_of}
use Rattle.tcl_frames.specs.Written.{variable_in, stored_at}
use Rattle.tcl_frames.proofs.Joined.{put_joined, stored_applied, done_joined, refused_stored}
use Rattle.tcl_frames.proofs.frames.Frames.put_afar.Goals as goal

pub returns-clause-done : goal.returns-clause-done
returns-clause-done c cs =
    let f = c.self.inside.stack in
    let vs = c.self.inside.variables in
    let at = c.place_of-at.result in
    let p = spot at.frame c.unkeyed-base.result (part_of at.part) in
    let leads = ap (λ n. spot at.frame n (part_of at.part)) c.unkeyed-base.ensures ∙ c.place_of-at.ensures.leads in
    let answer = put_part (variable_in vs p) p.part c.args.value in
    done_joined f vs c.self.invariant cs c.put.result c.args.self.now c.put.new.self (put_change (store_of cs c.args.self.now) (chars c.args.name.now) c.args.value) (stored p answer) (stored_at vs p answer) c.self.view_is
    (put_joined f vs c.args.self.now c.self.view_is c.self.invariant cs (chars c.args.name.now) p leads c.args.value) (stored_applied f vs c.self.invariant cs p answer) c.put.ensures.done

pub returns-clause-refused : goal.returns-clause-refused
returns-clause-refused c cs =
    let f = c.self.inside.stack in
    let vs = c.self.inside.variables in
    let at = c.place_of-at.result in
    let p = spot at.frame c.unkeyed-base.result (part_of at.part) in
    let leads = ap (λ n. spot at.frame n (part_of at.part)) c.unkeyed-base.ensures ∙ c.place_of-at.ensures.leads in
    let answer = put_part (variable_in vs p) p.part c.args.value in
    refused_stored c.put.result p answer _ (put_joined f vs c.args.self.now c.self.view_is c.self.invariant cs (chars c.args.name.now) p leads c.args.value) c.put.ensures.refused
