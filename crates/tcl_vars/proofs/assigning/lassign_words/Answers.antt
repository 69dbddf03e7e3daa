use Rattle.std.proofs.Common.{ℕ, List, drop, length, Err, subst, ap, ◌∙◌}
use Rattle.std.proofs.lemmas.Result.{err_from_is_err_and}
use Rattle.tcl_meaning.specs.Variables.{set_all}
use Rattle.tcl_pages.specs.Lists.{values_for, rest_behind}
use Rattle.tcl_pages.specs.Texts.{Text}
use Rattle.tcl_steps.specs.Comes.{Comes}
use Rattle.tcl_meaning.specs.Value.{Has}
use Rattle.tcl_steps.specs.Ends.{Ends}
use Rattle.tcl_vars.proofs.AssignLemmas.{lassign_usage, not_a_list, lassign_done, lassign_stops, names_are}
use Rattle.tcl_vars.proofs.assigning.lassign_words.Goals as goal

pub returns-then-words-eq0 : goal.returns-then-words-eq0
returns-then-words-eq0 c = rw c.in_ok-wrong_words.ensures (lassign_usage c.args.words.now c.args.frames.now c.if-words-eq0.true)

pub returns-in-Err : goal.returns-in-Err
returns-in-Err c = rw c.stop_by.ensures (not_a_list c.args.words.now c.args.frames.now c.in-Err.fault c.if-words-eq0.false c.in-Err.ensures.row)

pub returns-in_err-assign_elements : goal.returns-in_err-assign_elements
returns-in_err-assign_elements c =
    let p = err_from_is_err_and c.from_residual-in_err-assign_elements.result c.from_residual-in_err-assign_elements.ensures.1 in
    let es = c.in-Ok.row in
    let f = c.args.frames.now in
    let g = c.assign_elements.new.frames in
    let s = c.in_err-assign_elements.field-0.0 in
    rw (p.1, p.2)
    (lassign_stops c.args.words.now es f g c.if-words-eq0.false c.in-Ok.ensures.row s
    (subst (λ (vs : List Text). Ends (set_all vs (values_for (length vs) es)) f (Err s) g) (names_are c.args.words.now c.row_at.new.words c.row_at.ensures.same) c.in_err-assign_elements.ensures.ends))

pub returns : goal.returns
returns c =
    let es = c.in-Ok.row in
    let f = c.args.frames.now in
    let g = c.assign_elements.new.frames in
    rw c.normal.ensures
    (lassign_done c.args.words.now es f g c.if-words-eq0.false c.in-Ok.ensures.row c.in_ok-rest.rest
    (c.in_ok-rest.ensures ∙ ap (λ (k : ℕ). rest_behind k es) c.names_behind-count.ensures ∙ ap (λ (vs : List Text). rest_behind (length (drop 1 vs)) es) c.row_at.ensures.same)
    (subst (λ (vs : List Text). Comes (set_all vs (values_for (length vs) es)) f (Has tt) g) (names_are c.args.words.now c.row_at.new.words c.row_at.ensures.same) c.in_ok-assign_elements.ensures.ends))
