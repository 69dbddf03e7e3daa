use Rattle.std.proofs.Common.{sym, ◌∙◌}
use Rattle.tcl_code.proofs.Settling.{nothing_there}
use Rattle.tcl_code.proofs.Reading.{at_end, not_suited, outside, clash, noted}
use Rattle.tcl_code.proofs.search.Search.settle.Goals as goal

pub returns-in-None-clause-yes : goal.returns-in-None-clause-yes
returns-in-None-clause-yes c = λ _. nothing_there _ _ _ _ (sym c.at.ensures ∙ c.in-None.is) c.requires.sound c.requires.closed

pub returns-then-not-suits-clause-no : goal.returns-then-not-suits-clause-no
returns-then-not-suits-clause-no c = λ _. not_suited _ _ _ _ _ (sym c.at.ensures ∙ c.in-Some.is) c.requires.sound c.requires.closed _ c.in-Some-get.ensures.lookup.3.0 c.in-Some-get.ensures.lookup.1 _ c.suits.ensures c.if-not-suits.true

pub returns-then-not-stays_inside-clause-no : goal.returns-then-not-stays_inside-clause-no
returns-then-not-stays_inside-clause-no c = λ _. outside _ _ _ _ _ (sym c.at.ensures ∙ c.in-Some.is) c.requires.sound c.requires.closed _ c.in-Some-get.ensures.lookup.3.0 c.in-Some-get.ensures.lookup.1 _ c.stays_inside.ensures c.if-not-stays_inside.true

pub returns-in-None-get-clause-yes : goal.returns-in-None-get-clause-yes
returns-in-None-get-clause-yes c = (at_end _ _ _ _ _ (sym c.at.ensures ∙ c.in-Some.is) c.requires.sound c.requires.closed _ c.in-None-get.ensures.lookup.3 c.is_end.ensures).0

pub returns-in-None-get-clause-no : goal.returns-in-None-get-clause-no
returns-in-None-get-clause-no c = (at_end _ _ _ _ _ (sym c.at.ensures ∙ c.in-Some.is) c.requires.sound c.requires.closed _ c.in-None-get.ensures.lookup.3 c.is_end.ensures).1

pub returns-then-not-branch-clause-no : goal.returns-then-not-branch-clause-no
returns-then-not-branch-clause-no c = λ _. clash _ _ _ _ _ (sym c.at.ensures ∙ c.in-Some.is) c.requires.sound c.requires.closed _ c.in-Some-get.ensures.lookup.3.0 c.in-Some-get.ensures.lookup.1 _ _ _ _ _ c.if-not-branch.true c.leads_to.ensures c.in_ok-left-in-Some-get.ensures c.in_ok-note_all-in-Some-get.ensures

pub returns-in_ok-fits-in-Some-get-clause-yes : goal.returns-in_ok-fits-in-Some-get-clause-yes
returns-in_ok-fits-in-Some-get-clause-yes c = (noted _ _ _ _ _ (sym c.at.ensures ∙ c.in-Some.is) c.requires.sound c.requires.closed _ c.in-Some-get.ensures.lookup.3.0 c.in-Some-get.ensures.lookup.1 _ _ _ _ _ _ _ _ _ _ (c.suits.ensures.0 c.if-not-suits.false) (c.stays_inside.ensures.0 c.if-not-stays_inside.false) c.leads_to.ensures c.in_ok-left-in-Some-get.ensures c.if-not-branch.false c.in_ok-note_all-in-Some-get.ensures c.inner_at.ensures.place c.in_ok-inner-in-Some-get.ensures c.in_ok-fits-in-Some-get.ensures).0

pub returns-in_ok-fits-in-Some-get-clause-no : goal.returns-in_ok-fits-in-Some-get-clause-no
returns-in_ok-fits-in-Some-get-clause-no c = (noted _ _ _ _ _ (sym c.at.ensures ∙ c.in-Some.is) c.requires.sound c.requires.closed _ c.in-Some-get.ensures.lookup.3.0 c.in-Some-get.ensures.lookup.1 _ _ _ _ _ _ _ _ _ _ (c.suits.ensures.0 c.if-not-suits.false) (c.stays_inside.ensures.0 c.if-not-stays_inside.false) c.leads_to.ensures c.in_ok-left-in-Some-get.ensures c.if-not-branch.false c.in_ok-note_all-in-Some-get.ensures c.inner_at.ensures.place c.in_ok-inner-in-Some-get.ensures c.in_ok-fits-in-Some-get.ensures).1

pub returns-in_ok-fits-in-Some-get-clause-kept : goal.returns-in_ok-fits-in-Some-get-clause-kept
returns-in_ok-fits-in-Some-get-clause-kept c p s k = c.in_ok-fits-in-Some-get.ensures.kept p s (c.in_ok-note_all-in-Some-get.ensures.kept p s k)
